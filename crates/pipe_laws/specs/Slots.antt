-- A stage's slots over one step: what they hold is the solution's, slot by slot.
use Rattle.std.specs.Prelude.{◌≡◌, ℕ, suc, ◌<◌, List, [], ◌∷◌, ◌++◌, length, map, get_or, set}

-- the slots that a stage's packet sets, that feeds set, that it keeps, with the slots that they are
-- kept from; and its part's code
pub record Part : Type 0 where
  pub carried : List ℕ
  pub fed : List ℕ
  pub kept : List ℕ
  pub nexts : List ℕ
  pub cells : List ℕ
  pub code : List ℕ → List ℕ

abbrev pub Agree : (ℕ → ℕ) → List ℕ → List ℕ → Type 0
Agree sol [] m = Unit {0}
Agree sol (x ∷ xs) m = (get_or m x 0 ≡ sol x) × Agree sol xs m

abbrev pub Within : List ℕ → List ℕ → Type 0
Within [] m = Unit {0}
Within (x ∷ xs) m = (x < length m) × Within xs m

-- one slot after another
abbrev pub assign : List ℕ → List ℕ → List ℕ → List ℕ
assign [] vs m = m
assign (x ∷ xs) [] m = m
assign (x ∷ xs) (v ∷ vs) m = assign xs vs (set m x v)

abbrev pub read : List ℕ → List ℕ → List ℕ
read xs m = map (λ x. get_or m x 0) xs

-- what a part reads
abbrev pub reads : Part → List ℕ
reads p = p.carried ++ (p.fed ++ p.kept)

pub record IsPart (p : Part) (sol : ℕ → ℕ → ℕ) (slots : ℕ) : Type 0 where
  pub runs : (k : ℕ) (m : List ℕ) → length m ≡ slots → Agree (sol k) (reads p) m
      → (length (p.code m) ≡ slots) × Agree (sol k) (reads p ++ p.cells) (p.code m)
  pub within : (m : List ℕ) → length m ≡ slots → Within (reads p) m
  -- registers go from each step to the next
  pub steps : (k : ℕ) → map (sol (suc k)) p.kept ≡ map (sol k) p.nexts
  pub kept_from : (k : ℕ) (m : List ℕ)
      → Agree (sol k) (reads p ++ p.cells) m → Agree (sol k) p.nexts m

-- a step: the packet, the fed values, the code; then the kept registers go on
abbrev pub solved : Part → (ℕ → ℕ) → List ℕ → List ℕ
solved p sol m = p.code (assign p.fed (map sol p.fed) (assign p.carried (map sol p.carried) m))

abbrev pub OneStep : Type 0
OneStep = (p : Part) (sol : ℕ → ℕ → ℕ) (slots : ℕ) → IsPart p sol slots
    → (k : ℕ) (m : List ℕ) → length m ≡ slots → Agree (sol k) p.kept m
    → Agree (sol k) (reads p ++ p.cells) (solved p (sol k) m)
    × Agree (sol (suc k)) p.kept (assign p.kept (read p.nexts (solved p (sol k) m)) (solved p (sol k) m))
