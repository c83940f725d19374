-- The net of a pipeline: a reader, stages, a writer, links, the free ring and feeds.
use Rattle.std.specs.Prelude.{ℕ, zero, suc, ◌+◌, ◌<◌, ◌≤◌, Bool, true, false, ◌==◌, nat_lt, nat_le, List, [], ◌∷◌, ◌++◌, length, replicate, get_or}
use Rattle.pipe_laws.specs.Flow.{PopsTied}
use Rattle.pipe_laws.specs.Machine.{Ring, Link, Free, Feed, Move, Push, Pop, Script, Net, Tied}

-- registers that go back from a stage to an earlier one
pub record FeedShape : Type 0 where
  pub source : ℕ
  pub reader : ℕ
  pub regs : ℕ

pub record Shape : Type 0 where
  pub stages : ℕ
  pub ring : ℕ
  pub packets : ℕ
  pub feeds : List FeedShape
  -- the steps before End, and those of them that are written
  pub steps : ℕ
  pub lines : ℕ

abbrev pub feed : Shape → ℕ → FeedShape
feed h j = get_or h.feeds j (record { source = 1; reader = 0; regs = 0 })

abbrev pub when : Bool → List Move → List Move
when true xs = xs
when false xs = []

-- a stage's pops and pushes on feeds, which are numbered from i
abbrev pub ins : ℕ → ℕ → List FeedShape → List Move
ins s i [] = []
ins s i (f ∷ fs) = when (f.reader == s) (replicate f.regs (Pop (Feed i))) ++ ins s (suc i) fs

abbrev pub outs : ℕ → ℕ → List FeedShape → List Move
outs s i [] = []
outs s i (f ∷ fs) = when (f.source == s) (replicate f.regs (Push (Feed i))) ++ outs s (suc i) fs

abbrev pub reader_moves : Bool → List Move
reader_moves live = when live (Pop Free ∷ Push (Link 0) ∷ [])

abbrev pub stage_moves : Shape → ℕ → (live later carries : Bool) → List Move
stage_moves h s live later carries = when live (Pop (Link s)
    ∷ (when carries (when later (ins s 0 h.feeds) ++ outs s 0 h.feeds) ++ Push (Link (suc s)) ∷ []))

abbrev pub writer_moves : ℕ → (live writes : Bool) → List Move
writer_moves s live writes = when live (Pop (Link s) ∷ when writes (Push Free ∷ []))

-- actor 0 is the reader, actor s + 1 is stage s, and the last actor is the writer
abbrev pub later_script : Shape → ℕ → Bool → Script
later_script h s true k = stage_moves h s (nat_le k h.steps) (nat_lt 0 k) (nat_lt k h.steps)
later_script h s false k = writer_moves s (nat_le k h.lines) (nat_lt k h.lines)

abbrev pub script : Shape → ℕ → Script
script h zero k = reader_moves (nat_le k h.steps)
script h (suc s) k = later_script h s (nat_lt s h.stages) k

abbrev pub maker : Shape → Ring → ℕ
maker h (Link i) = i
maker h Free = suc h.stages
maker h (Feed j) = suc (feed h j).source

abbrev pub taker : Shape → Ring → ℕ
taker h (Link i) = suc i
taker h Free = 0
taker h (Feed j) = suc (feed h j).reader

abbrev pub first : Shape → Ring → ℕ
first h (Link i) = 0
first h Free = h.packets
first h (Feed j) = 0

abbrev pub slots : Shape → Ring → ℕ
slots h (Link i) = h.ring
slots h Free = h.packets
slots h (Feed j) = (feed h j).regs

abbrev pub net : Shape → Net
net h = record {
  actors = h.stages + 2;
  script = script h;
  maker = maker h;
  taker = taker h;
  first = first h;
  slots = slots h;
}

pub record IsShape (h : Shape) : Type 0 where
  pub ring : 1 ≤ h.ring
  pub packets : 1 ≤ h.packets
  pub lines : h.lines ≤ h.steps
  pub forward : (j : ℕ) → j < length h.feeds
      → ((feed h j).reader < (feed h j).source) × ((feed h j).source < h.stages)

abbrev pub ScriptsAreTied : Type 0
ScriptsAreTied = (h : Shape) → IsShape h → Tied (net h) h.lines

abbrev pub PopsAreTied : Type 0
PopsAreTied = (h : Shape) → IsShape h → PopsTied (net h)
