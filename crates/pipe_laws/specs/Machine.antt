-- Actors that push and pop on rings, each by a fixed list of moves for each step.
use Rattle.std.specs.Prelude.{◌≡◌, ℕ, zero, suc, ◌+◌, ◌<◌, ◌≤◌, Bool, true, false, ◌==◌, nat_lt, List, [], ◌∷◌, length, take, Option, Some, None, slice_get, set, get_or, if◌then◌else◌}

pub data Ring : Type 0 where
  Link : ℕ → Ring
  Free : Ring
  Feed : ℕ → Ring

pub data Move : Type 0 where
  Push : Ring → Move
  Pop : Ring → Move

abbrev pub same_ring : Ring → Ring → Bool
same_ring (Link i) (Link j) = i == j
same_ring (Link i) Free = false
same_ring (Link i) (Feed j) = false
same_ring Free (Link j) = false
same_ring Free Free = true
same_ring Free (Feed j) = false
same_ring (Feed i) (Link j) = false
same_ring (Feed i) Free = false
same_ring (Feed i) (Feed j) = i == j

abbrev pub same_move : Move → Move → Bool
same_move (Push r) (Push q) = same_ring r q
same_move (Push r) (Pop q) = false
same_move (Pop r) (Push q) = false
same_move (Pop r) (Pop q) = same_ring r q

abbrev pub hit : Move → Move → ℕ
hit m x = if same_move m x then 1 else 0

-- how often m stands in the list
abbrev pub times : Move → List Move → ℕ
times m [] = 0
times m (x ∷ xs) = hit m x + times m xs

-- the moves of each step, in order; none after the last step
abbrev pub Script : Type 0
Script = ℕ → List Move

-- how often m stands in the steps before k
abbrev pub before : Script → Move → ℕ → ℕ
before s m zero = 0
before s m (suc k) = before s m k + times m (s k)

-- where an actor stands: its step, and its moves done in that step
pub record Cursor : Type 0 where
  pub step : ℕ
  pub done : ℕ

-- the cursor after one more move; the answer of the test is whether the step has a further one
abbrev pub stepped : Cursor → Bool → Cursor
stepped c true = record { step = c.step; done = suc c.done }
stepped c false = record { step = suc c.step; done = 0 }

abbrev pub next : Script → Cursor → Cursor
next s c = stepped c (nat_lt (suc c.done) (length (s c.step)))

-- the cursor at a place, which is the number of moves done
abbrev pub cursor : Script → ℕ → Cursor
cursor s zero = record { step = 0; done = 0 }
cursor s (suc p) = next s (cursor s p)

-- the move that comes next
abbrev pub coming : Script → ℕ → Option Move
coming s p = slice_get (s (cursor s p).step) (cursor s p).done

-- how often m was done at a cursor
abbrev pub done_at : Script → Move → Cursor → ℕ
done_at s m c = before s m c.step + times m (take c.done (s c.step))

-- the actors, in the order of data flow, and the rings between them
pub record Net : Type 0 where
  pub actors : ℕ
  pub script : ℕ → Script
  pub maker : Ring → ℕ
  pub taker : Ring → ℕ
  pub first : Ring → ℕ
  pub slots : Ring → ℕ

abbrev pub place : List ℕ → ℕ → ℕ
place ps a = get_or ps a 0

-- the items put into a ring, those at the start included, and those taken out
abbrev pub put : Net → List ℕ → Ring → ℕ
put net ps r = net.first r + done_at (net.script (net.maker r)) (Push r) (cursor (net.script (net.maker r)) (place ps (net.maker r)))

abbrev pub got : Net → List ℕ → Ring → ℕ
got net ps r = done_at (net.script (net.taker r)) (Pop r) (cursor (net.script (net.taker r)) (place ps (net.taker r)))

-- whether a move finds an item or a slot
abbrev pub Finds : Net → List ℕ → Option Move → Type 0
Finds net ps None = ⊥
Finds net ps (Some (Pop r)) = got net ps r < put net ps r
Finds net ps (Some (Push r)) = put net ps r < got net ps r + net.slots r

abbrev pub Can : Net → List ℕ → ℕ → Type 0
Can net ps a = (a < net.actors) × Finds net ps (coming (net.script a) (place ps a))

-- the places after one more move of an actor
abbrev pub moved : List ℕ → ℕ → List ℕ
moved ps a = set ps a (suc (place ps a))

-- a state: on each ring pops at most pushes, and pushes at most pops and slots
pub record IsState (net : Net) (ps : List ℕ) : Type 0 where
  pub actors : length ps ≡ net.actors
  pub items : (r : Ring) → got net ps r ≤ put net ps r
  pub room : (r : Ring) → put net ps r ≤ got net ps r + net.slots r

-- b stands behind the moves of step k of actor a that come first
abbrev pub Behind : ℕ → ℕ → ℕ → ℕ → Type 0
Behind a k b j = (k ≤ j) × (b < a → k < j)

-- a fact of each move of a list
abbrev pub Each : (Move → Type 0) → List Move → Type 0
Each P [] = Unit {0}
Each P (x ∷ xs) = P x × Each P xs

-- a pop of step k finds its item behind the moves that come first, a push its slot
abbrev pub Law : Net → ℕ → ℕ → Move → Type 0
Law net a k (Pop r) =
    (net.taker r ≡ a) × (net.maker r < net.actors)
    × ((j : ℕ) → Behind a k (net.maker r) j
    → before (net.script a) (Pop r) (suc k) ≤ net.first r + before (net.script (net.maker r)) (Push r) j)
Law net a k (Push r) =
    (net.maker r ≡ a) × (net.taker r < net.actors)
    × ((j : ℕ) → Behind a k (net.taker r) j
    → net.first r + before (net.script a) (Push r) (suc k)
    ≤ before (net.script (net.taker r)) (Pop r) j + net.slots r)

-- what ties the scripts, up to a last step
pub record Tied (net : Net) (last : ℕ) : Type 0 where
  pub some_left : (a k : ℕ) → a < net.actors → k ≤ last → 0 < length (net.script a k)
  pub each : (a k : ℕ) → a < net.actors → k ≤ last → Each (Law net a k) (net.script a k)

-- at any places at which one actor isn't behind the last step, some actor can move
abbrev pub NeverStuck : Type 0
NeverStuck = (net : Net) (last : ℕ) → Tied net last
    → (ps : List ℕ) (w : ℕ) → w < net.actors → (cursor (net.script w) (place ps w)).step ≤ last
    → (a : ℕ) × Can net ps a

-- a list of actors, each of which can step
abbrev pub Runs : Net → List ℕ → List ℕ → Type 0
Runs net ps [] = Unit {0}
Runs net ps (a ∷ as') = Can net ps a × Runs net (moved ps a) as'

-- the places after their moves
abbrev pub all_moved : List ℕ → List ℕ → List ℕ
all_moved ps [] = ps
all_moved ps (a ∷ rest) = all_moved (moved ps a) rest

-- each ring has two ends, one push adds one item: what keeps a state
abbrev pub Apart : Net → Type 0
Apart net = (r : Ring) → ¬ (net.maker r ≡ net.taker r)

-- what can happen keeps a state
abbrev pub StatesKept : Type 0
StatesKept = (net : Net) → Apart net
    → (ps : List ℕ) (events : List ℕ) → IsState net ps → Runs net ps events
    → IsState net (all_moved ps events)
