-- The machine with its lists: a state is the actors' places and what was received on each ring.
use Rattle.std.specs.Prelude.{◌≡◌, ◌≢◌, ℕ, ◌+◌, ◌<◌, List, [], ◌∷◌, ◌++◌, length, Option, Some, None, slice_get, if◌then◌else◌}
use Rattle.pipe_laws.specs.Machine.{Ring, Move, Push, Pop, same_ring, times, place, moved}
use Rattle.pipe_laws.specs.Flow.{Flow, Run, run, sent, Begins}

pub record World (X : Type 0) : Type 0 where
  pub places : List ℕ
  pub received : Ring → List X

-- one item more, if there is one
abbrev pub gain : {X : Type 0} → List X → Option X → List X
gain xs None = xs
gain xs (Some x) = xs ++ x ∷ []

module _ {X M : Type 0} (f : Flow X M) where
  -- an actor, by what was received
  abbrev pub actor : World X → ℕ → Run M
  actor w a = run f w.received a (place w.places a)

  -- all that was put into a ring, from the start on
  abbrev pub put_in : World X → Ring → List X
  put_in w r = f.initial r ++ sent f w.received (f.net.maker r) (place w.places (f.net.maker r)) r

  -- the move that an actor makes next
  abbrev pub wish : World X → ℕ → Option Move
  wish w a = f.wants a (actor w a).memory

  -- a pop finds an item, or a push a slot
  abbrev pub Allowed : World X → Option Move → Type 0
  Allowed w None = ⊥
  Allowed w (Some (Pop r)) = length (w.received r) < length (put_in w r)
  Allowed w (Some (Push r)) = length (put_in w r) < length (w.received r) + f.net.slots r

  -- the machine after that move
  abbrev pub happens : World X → ℕ → Option Move → World X
  happens w a None = w
  happens w a (Some (Push r)) = record { places = moved w.places a; received = w.received }
  happens w a (Some (Pop r)) = record {
    places = moved w.places a;
    received = λ q.
        if same_ring r q then gain (w.received q) (slice_get (put_in w q) (length (w.received q)))
        else w.received q;
  }

  -- actors that make their moves one after another
  abbrev pub Events : World X → List ℕ → Type 0
  Events w [] = Unit {0}
  Events w (a ∷ rest) = (a < f.net.actors) × Allowed w (wish w a) × Events (happens w a (wish w a)) rest

  -- the machine after their moves
  abbrev pub ends : World X → List ℕ → World X
  ends w [] = w
  ends w (a ∷ rest) = ends (happens w a (wish w a)) rest

  -- each ring has one taker and one maker, and they differ
  pub record Owns : Type 0 where
    pub pops : (a : ℕ) (m : M) (r : Ring) → f.wants a m ≡ Some (Pop r) → f.net.taker r ≡ a
    pub pushes : (a : ℕ) (m : M) (r : Ring) → f.wants a m ≡ Some (Push r) → f.net.maker r ≡ a
    pub apart : (r : Ring) → f.net.maker r ≢ f.net.taker r

  -- what was received on a ring is what its taker popped, and begins what was put in
  pub record IsWorld (w : World X) : Type 0 where
    pub actors : length w.places ≡ f.net.actors
    pub popped : (r : Ring) → times (Pop r) (actor w (f.net.taker r)).moves ≡ length (w.received r)
    pub in_order : (r : Ring) → Begins (w.received r) (put_in w r)

-- each event that is allowed keeps that
abbrev pub Worlds : (X M : Type 0) → Type 0
Worlds X M = (f : Flow X M) → Owns f
    → (w : World X) (events : List ℕ) → IsWorld f w → Events f w events → IsWorld f (ends f w events)
