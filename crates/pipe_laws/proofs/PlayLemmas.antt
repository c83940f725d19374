-- A machine that plays from its start. The start is a world, and each event keeps one; so the lists of
-- a machine are those of which the streams' theorem speaks, and their lengths are the counts of the net.
use Rattle.std.proofs.Common.{inl, inr, ◌≡◌, ℕ, ◌<◌, ◌≤◌, List, [], ◌∷◌, Option, Some, None, refl, sym, ap, ◌∙◌, subst, arith}
use Rattle.std.specs.Prelude.{zero, suc, length, take}
use Rattle.std.proofs.lemmas.Bool.{cases_lt}
use Rattle.std.proofs.lemmas.List.{length-append, length-replicate}
use Rattle.pipe_laws.specs.Machine.{Ring, Move, Push, Pop, Finds, cursor, coming, done_at, place, put, got, times}
use Rattle.pipe_laws.specs.Flow.{Flow, AreLists, run, sent}
use Rattle.pipe_laws.specs.World.{World, Allowed, Events, IsWorld, actor, put_in, wish}
use Rattle.pipe_laws.specs.Play.{first_world, played, IsTied, IsAsStreams, Interleavings, SomeCanStep}
use Rattle.pipe_laws.proofs.Stuck.{never}
use Rattle.pipe_laws.proofs.CountLemmas.{zeros}
use Rattle.pipe_laws.proofs.FlowLemmas.{counted, run_same, sent_begins, sent_length}
use Rattle.pipe_laws.proofs.WorldLemmas.{worlds}

beyond : (ps : List ℕ) (a : ℕ) → length ps ≤ a → place ps a ≡ 0
beyond [] a l = refl
beyond (p ∷ ps) zero l = absurd (omega (arith, l))
beyond (p ∷ ps) (suc a) l = beyond ps a (omega (arith, l))

none_taken : (m : Move) (xs : List Move) → times m (take 0 xs) ≡ 0
none_taken m [] = refl
none_taken m (x ∷ xs) = refl

module _ {X M : Type 0} (f : Flow X M) where
  starts : IsWorld f (first_world f)
  starts = record {
    actors = length-replicate f.net.actors 0;
    popped = λ r. ap (λ p. times (Pop r) (run f (λ q. []) (f.net.taker r) p).moves) (zeros f.net.actors (f.net.taker r));
    in_order = λ r i l. absurd (omega (arith, l));
  }

  module _ (streams : Ring → List X) (ties : IsTied f streams) (events : List ℕ) (can : Events f (first_world f) events) where
    abbrev world : World X
    world = played f events

    is_world : IsWorld f world
    is_world = worlds X M f ties.owns (first_world f) events starts can

    lists : AreLists f world.places world.received
    lists = record { popped = λ r. (let e = is_world.popped r in omega (arith, e)); in_order = is_world.in_order }

    same : (a : ℕ) → a < f.net.actors → actor f world a ≡ run f streams a (place world.places a)
    same a l = run_same f streams ties.pops ties.firsts ties.solves world.places world.received lists a (place world.places a) l (omega arith)

    as_streams : IsAsStreams f streams world
    as_streams = record {
      actors = same;
      received = is_world.in_order;
      sent = λ r l. sent_begins f streams ties.pops ties.firsts ties.solves world.places world.received lists (f.net.maker r) r l;
    }

    -- an actor's moves, counted by its script; nobody else has made one
    moves : (a : ℕ) (m : Move) → times m (actor f world a).moves ≡ done_at (f.net.script a) m (cursor (f.net.script a) (place world.places a))
    moves a m = elim (cases_lt a f.net.actors) [
      | inl l ↦ ap (λ s. times m s.moves) (same a l) ∙ counted f streams ties.pops ties.firsts ties.solves world.places world.received lists a (place world.places a) m l
      | inr g ↦ (
          let n = is_world.actors in
          let z = beyond world.places a (omega (arith, n, g)) in
          let t = ap (λ p. times m (run f world.received a p).moves) z in
          let d = ap (λ p. done_at (f.net.script a) m (cursor (f.net.script a) p)) z in
          let e = none_taken m (f.net.script a 0) in
          omega (arith, t, d, e))
    ]

    put_length : (r : Ring) → length (put_in f world r) ≡ put f.net world.places r
    put_length r =
        let a = length-append (f.initial r) (sent f world.received (f.net.maker r) (place world.places (f.net.maker r)) r) in
        let b = sent_length f world.received (f.net.maker r) (place world.places (f.net.maker r)) r in
        let c = moves (f.net.maker r) (Push r) in
        let d = ties.firsts r in
        omega (arith, a, b, c, d)

    got_length : (r : Ring) → length (world.received r) ≡ got f.net world.places r
    got_length r = let a = is_world.popped r in let b = moves (f.net.taker r) (Pop r) in omega (arith, a, b)

    wished : (a : ℕ) → a < f.net.actors → wish f world a ≡ coming (f.net.script a) (place world.places a)
    wished a l = ap (λ s. f.wants a s.memory) (same a l) ∙ ties.solves.follows a (place world.places a) l

    -- what the net finds, the machine's lists allow
    allowed : (o : Option Move) → Finds f.net world.places o → Allowed f world o
    allowed None h = h
    allowed (Some (Push r)) h = let p = put_length r in let g = got_length r in omega (arith, h, p, g)
    allowed (Some (Pop r)) h = let p = put_length r in let g = got_length r in omega (arith, h, p, g)

pub interleavings : (X M : Type 0) → Interleavings X M
interleavings X M f streams ties events can = as_streams f streams ties events can

pub some_can_step : (X M : Type 0) → SomeCanStep X M
some_can_step X M f streams ties last tied events can w l g =
    let c = never f.net last tied (played f events).places w l g in
    (c.0, c.1.0, subst (λ o. Allowed f (played f events) o) (sym (wished f streams ties events can c.0 c.1.0)) (allowed f streams ties events can _ c.1.1))
