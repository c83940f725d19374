-- The number of events.
use Rattle.std.specs.Prelude.{◌≡◌, ℕ, zero, suc, ◌+◌, ◌-◌, ◌*◌, ◌<◌, ◌≤◌, List, [], ◌∷◌, length, replicate}
use Rattle.pipe_laws.specs.Machine.{Script, Net, Can, Tied, Runs, all_moved}
use Rattle.pipe_laws.specs.Pipe.{FeedShape, Shape, IsShape, net}

-- the moves in the steps before k
abbrev pub offset : Script → ℕ → ℕ
offset s zero = 0
offset s (suc k) = offset s k + length (s k)

-- the sum over the first actors
abbrev pub total : (ℕ → ℕ) → ℕ → ℕ
total f zero = 0
total f (suc n) = total f n + f n

-- no actor has moved
abbrev pub start : Net → List ℕ
start net = replicate net.actors 0

-- nobody has a move behind the last step
abbrev pub Ends : Net → ℕ → Type 0
Ends net last = (a k : ℕ) → a < net.actors → last < k → net.script a k ≡ []

-- where nobody can move any more, all moves were made
abbrev pub Counted : Type 0
Counted = (net : Net) (last : ℕ) → Tied net last → Ends net last
    → (events : List ℕ) → Runs net (start net) events
    → ((a : ℕ) → ¬ Can net (all_moved (start net) events) a)
    → length events ≡ total (λ a. offset (net.script a) (suc last)) net.actors

-- and never more
abbrev pub AtMost : Type 0
AtMost = (net : Net) (last : ℕ) → Ends net last
    → (events : List ℕ) → Runs net (start net) events
    → length events ≤ total (λ a. offset (net.script a) (suc last)) net.actors

-- the registers, counted once for each feed that carries them
abbrev pub registers : List FeedShape → ℕ
registers [] = 0
registers (f ∷ fs) = f.regs + registers fs

-- the number of all moves of a pipeline
abbrev pub Formula : Type 0
Formula = (h : Shape) → IsShape h → Ends (net h) h.steps
    × (total (λ a. offset ((net h).script a) (suc h.steps)) (h.stages + 2)
    ≡ 2 * (h.steps + 1) * (h.stages + 1) + 2 * h.lines + 1
    + registers h.feeds * (h.steps + (h.steps - 1)))
