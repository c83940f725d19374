-- Words whose bits are the references with a property.
use Rattle.std.proofs.Common.{◌≡◌, ◌∙◌, ℕ, ℤ, Option, ◌+◌, ◌*◌, ◌/◌, ◌%◌, ◌^◌, ◌<◌, inl, inr, Bool, true, false, Some, None, refl, sym, ap, arith}
use Rattle.std.specs.Prelude.{◌↔◌, ◌⊎◌, ◌==◌, bit_and, bit_or, if◌then◌else◌}
use Rattle.std.specs.Int.{bit_at, w64, trailing_zeros}
use Rattle.std.proofs.lemmas.Bool.Decides.{nat_tests}
use Rattle.std.proofs.lemmas.Nat.Bits.{bit_at_and, bit_at_or, bit_at-zero, bit_at-lt, bit_at-pow_same, bit_at-pow_other, bit_at-trailing_zeros}
use Rattle.aif_cells.specs.declared.reference.Ref.{Ref}
use Rattle.aif_cells.specs.declared.reference.Ref.TheVariants as ref
use Rattle.write_conflicts.specs.declared.block.Group.{Group}
use Rattle.write_conflicts.specs.declared.block.Group.TheVariants as group
use Rattle.write_conflicts.specs.declared.block.Block.{Block}
use Rattle.write_conflicts.specs.Blocks.{Marks, bit_of, number_in, ref_at, ref_of}

-- ---- bits of two words

pub either_bit : (v w k : ℕ) → bit_at (bit_or v w) k ≡ 1 → (bit_at v k ≡ 1) ⊎ (bit_at w k ≡ 1)
either_bit v w k e = at (bit_at v k == 1) refl
  where
    at : (b : Bool) → (bit_at v k == 1) ≡ b → (bit_at v k ≡ 1) ⊎ (bit_at w k ≡ 1)
    at true f = inl (grind (arith, nat_tests, f))
    at false f = inr (let n : bit_at v k ≡ 0 = grind (arith, nat_tests, f, bit_at-lt v k) in omega (arith, n, e, bit_at_or v w k, bit_at-lt w k))

pub or_left : (v w k : ℕ) → bit_at v k ≡ 1 → bit_at (bit_or v w) k ≡ 1
or_left v w k e = omega (arith, e, bit_at_or v w k, bit_at-lt w k)

pub or_right : (v w k : ℕ) → bit_at w k ≡ 1 → bit_at (bit_or v w) k ≡ 1
or_right v w k e = omega (arith, e, bit_at_or v w k, bit_at-lt v k)

pub and_left : (v w k : ℕ) → bit_at (bit_and v w) k ≡ 1 → bit_at v k ≡ 1
and_left v w k e = omega (arith, e, bit_at_and v w k, bit_at-lt v k, bit_at-lt w k)

pub and_right : (v w k : ℕ) → bit_at (bit_and v w) k ≡ 1 → bit_at w k ≡ 1
and_right v w k e = omega (arith, e, bit_at_and v w k, bit_at-lt v k, bit_at-lt w k)

pub and_both : (v w k : ℕ) → bit_at v k ≡ 1 → bit_at w k ≡ 1 → bit_at (bit_and v w) k ≡ 1
and_both v w k e f = omega (arith, e, f, bit_at_and v w k)

pub no_bit : (k : ℕ) → bit_at 0 k ≡ 1 → ⊥
no_bit k e = omega (arith, e, bit_at-zero k)

-- a word that isn't 0 has a bit
pub some_bit : (w : ℕ) → w < 2 ^ 64 → 0 < w → (k : ℕ) × (k < 64) × (bit_at w k ≡ 1)
some_bit w fits h = let b = bit_at-trailing_zeros w64 w h fits in (trailing_zeros w64 w, b.0, b.1)

-- ---- words of properties

pub marks_united : (b : Block) (v w : ℕ) (P Q R : Ref → Type 0) → Marks v b P → Marks w b Q → ((x : Ref) → R x ↔ (P x ⊎ Q x)) → Marks (bit_or v w) b R
marks_united b v w P Q R p q r k l = (there, back)
  where
    there : bit_at (bit_or v w) k ≡ 1 → R (ref_at b k)
    there e = elim (either_bit v w k e) [
      | inl f ↦ (r (ref_at b k)).1 (inl ((p k l).0 f))
      | inr g ↦ (r (ref_at b k)).1 (inr ((q k l).0 g))
    ]

    back : R (ref_at b k) → bit_at (bit_or v w) k ≡ 1
    back m = elim ((r (ref_at b k)).0 m) [
      | inl f ↦ or_left v w k ((p k l).1 f)
      | inr g ↦ or_right v w k ((q k l).1 g)
    ]

pub marks_shared : (b : Block) (v w : ℕ) (P Q R : Ref → Type 0) → Marks v b P → Marks w b Q → ((x : Ref) → R x ↔ (P x × Q x)) → Marks (bit_and v w) b R
marks_shared b v w P Q R p q r k l = (
  λ e. (r (ref_at b k)).1 ((p k l).0 (and_left v w k e), (q k l).0 (and_right v w k e)),
  λ m. let both = (r (ref_at b k)).0 m in and_both v w k ((p k l).1 both.0) ((q k l).1 both.1),
)

pub marks_none : (b : Block) (R : Ref → Type 0) → ((x : Ref) → R x → ⊥) → Marks 0 b R
marks_none b R r k l = (λ e. absurd (no_bit k e), λ m. absurd (r (ref_at b k) m))

pub marks_same : (b : Block) (w : ℕ) (P R : Ref → Type 0) → Marks w b P → ((x : Ref) → R x ↔ P x) → Marks w b R
marks_same b w P R p r k l = (λ e. (r (ref_at b k)).1 ((p k l).0 e), λ m. (p k l).1 ((r (ref_at b k)).0 m))

-- ---- the word of one reference

pub number_of : (g : Group) (n : ℕ) → number_in g (ref_of g n) ≡ Some n
number_of group.Inputs n = refl
number_of group.Registers n = refl
number_of group.Cells n = refl

pub no_literal : (g : Group) (n : ℕ) (z : ℤ) → ref_of g n ≡ ref.Lit z → ⊥
no_literal group.Inputs n z e = cc
no_literal group.Registers n z e = cc
no_literal group.Cells n z e = cc

pub is_of : (g : Group) (r : Ref) (n : ℕ) → number_in g r ≡ Some n → ref_of g n ≡ r
is_of group.Inputs (ref.Input i) n e = cc
is_of group.Inputs (ref.Lit i) n e = absurd (cc)
is_of group.Inputs (ref.Reg i) n e = absurd (cc)
is_of group.Inputs (ref.Cell i) n e = absurd (cc)
is_of group.Registers (ref.Input i) n e = absurd (cc)
is_of group.Registers (ref.Lit i) n e = absurd (cc)
is_of group.Registers (ref.Reg i) n e = cc
is_of group.Registers (ref.Cell i) n e = absurd (cc)
is_of group.Cells (ref.Input i) n e = absurd (cc)
is_of group.Cells (ref.Lit i) n e = absurd (cc)
is_of group.Cells (ref.Reg i) n e = absurd (cc)
is_of group.Cells (ref.Cell i) n e = cc

-- the bit of a number in a block
bit_there : (b : Block) (n k : ℕ) → k < 64 → bit_at (bit_of b (Some n)) k ≡ 1 → n ≡ 64 * b.at + k
bit_there b n k l e = at (n / 64 == b.at) refl
  where
    other : (k ≡ n % 64 → ⊥) → bit_at (2 ^ (n % 64)) k ≡ 1 → ⊥
    other f g = omega (arith, g, bit_at-pow_other (n % 64) k f)

    same : bit_at (2 ^ (n % 64)) k ≡ 1 → k ≡ n % 64
    same g = test (k == n % 64) refl
      where
        test : (t : Bool) → (k == n % 64) ≡ t → k ≡ n % 64
        test true f = grind (arith, nat_tests, f)
        test false f = absurd (other (grind (arith, nat_tests, f)) g)

    at : (t : Bool) → (n / 64 == b.at) ≡ t → n ≡ 64 * b.at + k
    at true f =
        let g : bit_at (2 ^ (n % 64)) k ≡ 1 = sym (ap (λ (t : Bool). bit_at (if t then 2 ^ (n % 64) else 0) k) f) ∙ e in
        let q : n / 64 ≡ b.at = grind (arith, nat_tests, f) in
        let s : k ≡ n % 64 = same g in
        omega (arith, q, s)
    at false f = absurd (no_bit k (sym (ap (λ (t : Bool). bit_at (if t then 2 ^ (n % 64) else 0) k) f) ∙ e))

bit_set : (b : Block) (n k : ℕ) → k < 64 → n ≡ 64 * b.at + k → bit_at (bit_of b (Some n)) k ≡ 1
bit_set b n k l e =
    let f : (n / 64 == b.at) ≡ true = (let q : n / 64 ≡ b.at = omega (arith, e, l) in grind (arith, nat_tests, q)) in
    let s : n % 64 ≡ k = omega (arith, e, l) in
    ap (λ (t : Bool). bit_at (if t then 2 ^ (n % 64) else 0) k) f ∙ (ap (λ (m : ℕ). bit_at (2 ^ m) k) s ∙ bit_at-pow_same k)

-- the word of a reference has the bit of that reference alone
pub marks_own : (b : Block) (r : Ref) → Marks (bit_of b (number_in b.group r)) b (λ x. x ≡ r)
marks_own b r k l = (there (number_in b.group r) refl, back)
  where
    there : (o : Option ℕ) → number_in b.group r ≡ o → bit_at (bit_of b o) k ≡ 1 → ref_at b k ≡ r
    there None f e = absurd (no_bit k e)
    there (Some n) f e = ap (ref_of b.group) (sym (bit_there b n k l e)) ∙ is_of b.group r n f

    back : ref_at b k ≡ r → bit_at (bit_of b (number_in b.group r)) k ≡ 1
    back e = ap (λ (x : Ref). bit_at (bit_of b (number_in b.group x)) k) (sym e) ∙ (ap (λ (o : Option ℕ). bit_at (bit_of b o) k) (number_of b.group (64 * b.at + k)) ∙ bit_set b (64 * b.at + k) k l refl)
