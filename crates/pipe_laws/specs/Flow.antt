-- What actors make of what they receive, by their places alone.
use Rattle.std.specs.Prelude.{◌⊎◌, ◌+◌, ◌≡◌, ℕ, zero, suc, ◌<◌, ◌≤◌, List, [], ◌∷◌, ◌++◌, length, Option, Some, None, slice_get, if◌then◌else◌}
use Rattle.pipe_laws.specs.Machine.{Ring, Move, Push, Pop, same_ring, times, before, Each, Behind, Net, place, cursor, coming, done_at}

-- an actor's memory M, which says its next move, and what its moves do with items X
pub record Flow (X M : Type 0) : Type 0 where
  pub net : Net
  pub start : ℕ → M
  -- what stands in a ring at the start
  pub initial : Ring → List X
  pub wants : ℕ → M → Option Move
  pub taking : ℕ → Ring → X → M → M
  pub giving : ℕ → Ring → M → X
  pub gave : ℕ → Ring → M → M

-- an actor after some moves, with its moves, the last one first
pub record Run (M : Type 0) : Type 0 where
  pub memory : M
  pub moves : List Move

module _ {X M : Type 0} (f : Flow X M) (received : Ring → List X) where
  abbrev pub taken : ℕ → Ring → M → Option X → M
  taken a r m None = m
  taken a r m (Some x) = f.taking a r x m

  abbrev pub after : ℕ → Run M → Option Move → Run M
  after a s None = s
  after a s (Some (Push r)) = record { memory = f.gave a r s.memory; moves = Push r ∷ s.moves }
  after a s (Some (Pop r)) = record {
    memory = taken a r s.memory (slice_get (received r) (times (Pop r) s.moves));
    moves = Pop r ∷ s.moves;
  }

  -- an actor at a place, by what it received alone
  abbrev pub run : (a p : ℕ) → Run M
  run a zero = record { memory = f.start a; moves = [] }
  run a (suc p) = after a (run a p) (f.wants a (run a p).memory)

  abbrev pub pushed : ℕ → Run M → Ring → Option Move → List X
  pushed a s r None = []
  pushed a s r (Some (Pop q)) = []
  pushed a s r (Some (Push q)) = if same_ring r q then f.giving a r s.memory ∷ [] else []

  -- what it has pushed on a ring
  abbrev pub sent : (a p : ℕ) → Ring → List X
  sent a zero r = []
  sent a (suc p) r = sent a p r ++ pushed a (run a p) r (f.wants a (run a p).memory)

-- xs is a prefix of ys
abbrev pub Begins : {X : Type 0} → List X → List X → Type 0
Begins xs ys = (i : ℕ) → i < length xs → slice_get ys i ≡ slice_get xs i

-- the streams are what the actors make of them, one actor at a time: each makes the moves of its
-- script, and pushes the stream
pub record Solves {X M : Type 0} (f : Flow X M) (streams : Ring → List X) : Type 0 where
  pub follows : (a p : ℕ) → a < f.net.actors
      → f.wants a (run f streams a p).memory ≡ coming (f.net.script a) p
  pub starts : (r : Ring) → Begins (f.initial r) (streams r)
  pub gives : (a p : ℕ) (r : Ring) → a < f.net.actors → coming (f.net.script a) p ≡ Some (Push r)
      → slice_get (streams r)
      (length (f.initial r) + done_at (f.net.script a) (Push r) (cursor (f.net.script a) p))
      ≡ Some (f.giving a r (run f streams a p).memory)

-- a pop's item stands in the ring at the start or is pushed by a move that comes first, or its maker
-- has come to its end
abbrev pub PopLaw : Net → ℕ → ℕ → Move → Type 0
PopLaw net a k (Push r) = net.maker r ≡ a
PopLaw net a k (Pop r) =
    (net.taker r ≡ a) × (net.maker r < net.actors)
    × ((j : ℕ) → Behind a k (net.maker r) j →
    (before (net.script a) (Pop r) (suc k) ≤ net.first r + before (net.script (net.maker r)) (Push r) j)
    ⊎ ((i : ℕ) → j ≤ i → net.script (net.maker r) i ≡ []))

abbrev pub PopsTied : Net → Type 0
PopsTied net = (a k : ℕ) → a < net.actors → Each (PopLaw net a k) (net.script a k)

-- the ends' lists, as they are in a machine after any events and in a pipeline after any round
pub record AreLists {X M : Type 0} (f : Flow X M) (ps : List ℕ) (received : Ring → List X) : Type 0 where
  pub popped : (r : Ring)
      → times (Pop r) (run f received (f.net.taker r) (place ps (f.net.taker r))).moves
      ≤ length (received r)
  pub in_order : (r : Ring)
      → Begins (received r) (f.initial r ++ sent f received (f.net.maker r) (place ps (f.net.maker r)) r)

-- whatever came in which order, each actor is where its script and the streams leave it, and each
-- list that was sent begins its stream
abbrev pub Streams : (X M : Type 0) → Type 0
Streams X M = (f : Flow X M) (streams : Ring → List X) → PopsTied f.net
    → ((r : Ring) → f.net.first r ≡ length (f.initial r)) → Solves f streams
    → (ps : List ℕ) (received : Ring → List X) → AreLists f ps received
    → (a : ℕ) → a < f.net.actors
    → (run f received a (place ps a) ≡ run f streams a (place ps a))
    × ((r : Ring) → Begins (f.initial r ++ sent f received a (place ps a) r) (streams r))
