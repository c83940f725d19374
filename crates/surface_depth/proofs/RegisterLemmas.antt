-- The registers of one more element.
use Rattle.std.proofs.Common.{◌≡◌, ℕ, suc, ◌+◌, ◌-◌, ◌<◌, List, ◌++◌, length, sym, ap, ◌∙◌, append_assoc, arith}
use Rattle.aif_cells.specs.declared.reference.Ref.{Ref}
use Rattle.aif_cells.specs.declared.cells.Register.{Register}
use Rattle.reincarnation.specs.Carrying.{with_next}
use Rattle.reincarnation.proofs.CarryLemmas.{length-with_next}
use Rattle.statement_cells.specs.Whole.{repeated}

pub elements_more : (before after target rs : List Register) (n i : ℕ) → i < n → after ≡ before ++ rs → before ++ repeated (n - i) rs ≡ target → after ++ repeated (n - (i + 1)) rs ≡ target
elements_more before after target rs n i lt e h =
    let m : n - i ≡ suc (n - (i + 1)) = omega (arith, lt) in
    ap (λ (xs : List Register). xs ++ repeated (n - (i + 1)) rs) e ∙ append_assoc before rs (repeated (n - (i + 1)) rs)
    ∙ ap (λ (k : ℕ). before ++ repeated k rs) (sym m) ∙ h

pub next_count : (xs : List Register) (k : ℕ) (n : Ref) → length (with_next xs k n) ≡ length xs
next_count xs k n = length-with_next xs k n
