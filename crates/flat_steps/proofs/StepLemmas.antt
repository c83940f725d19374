-- One more step of a run; steps behind others; what steps leave as it is.
use Rattle.std.proofs.Common.{◌≡◌, ◌∙◌, ℕ, suc, zero, ◌+◌, ◌<◌, ◌≤◌, ℤ, List, [], ◌∷◌, ◌++◌, length, drop, take, get_or, refl, add-one, arith}
use Rattle.std.specs.Prelude.{slice_set}
use Rattle.std.proofs.Math.Seq.{drop-cons}
use Rattle.std.proofs.lemmas.List.{length-set, take-set-le}
use Rattle.flat_steps.specs.declared.step.Operation.{Operation}
use Rattle.flat_steps.specs.declared.step.Operation.TheVariants as op
use Rattle.flat_steps.specs.declared.step.Step.{Step}
use Rattle.flat_steps.specs.Steps.{AreWithin, IsWithin, ReadsWithin, WriteFrom, after, after_step, made}

pub within_at : (n : ℕ) (is : List Step) (k : ℕ) (d : Step) → AreWithin n is → k < length is → IsWithin n (get_or is k d)
within_at n [] k d w h = absurd (omega (arith, h))
within_at n (i ∷ is) zero d w h = w.0
within_at n (i ∷ is) (suc k) d w h = within_at n is k d w.1 (omega (arith, h))

pub one_more : (is : List Step) (k : ℕ) (d : Step) (s t : List ℤ) (z : ℤ) → k < length is
    → after (drop k is) s ≡ t → z ≡ made (get_or is k d).operation s
    → after (drop (k + 1) is) (slice_set s (get_or is k d).to z) ≡ t
one_more is k d s t z h before e =
    let shown : drop k is ≡ get_or is k d ∷ drop (suc k) is = drop-cons is k d h in
    rw (add-one, e) (rw shown at before)

pub after-append : (is js : List Step) (s : List ℤ) → after (is ++ js) s ≡ after js (after is s)
after-append [] js s = refl
after-append (i ∷ is) js s = after-append is js (after_step i s)

pub length_after : (is : List Step) (s : List ℤ) → length (after is s) ≡ length s
length_after [] s = refl
length_after (i ∷ is) s = length_after is (after_step i s) ∙ length-set s i.to (made i.operation s)

-- the slots before all that are written
pub front_stays : (n : ℕ) (is : List Step) (s : List ℤ) → WriteFrom n is → take n (after is s) ≡ take n s
front_stays n [] s w = refl
front_stays n (i ∷ is) s w = front_stays n is (after_step i s) w.1 ∙ take-set-le n s i.to (made i.operation s) w.0

-- ---- more steps, and more slots

pub writes-append : (n : ℕ) (is js : List Step) → WriteFrom n is → WriteFrom n js → WriteFrom n (is ++ js)
writes-append n [] js w v = v
writes-append n (i ∷ is) js w v = (w.0, writes-append n is js w.1 v)

pub writes_from_less : (m n : ℕ) (is : List Step) → m ≤ n → WriteFrom n is → WriteFrom m is
writes_from_less m n [] h w = tt
writes_from_less m n (i ∷ is) h w = (omega (arith, h, w.0), writes_from_less m n is h w.1)

pub within-append : (n : ℕ) (is js : List Step) → AreWithin n is → AreWithin n js → AreWithin n (is ++ js)
within-append n [] js w v = v
within-append n (i ∷ is) js w v = (w.0, within-append n is js w.1 v)

reads_more : (m n : ℕ) (o : Operation) → m ≤ n → ReadsWithin m o → ReadsWithin n o
reads_more m n (op.Literal z) h w = tt
reads_more m n (op.Same a) h w = omega (arith, h, w)
reads_more m n (op.One f a) h w = omega (arith, h, w)
reads_more m n (op.Two f a b) h w = (omega (arith, h, w.0), omega (arith, h, w.1))
reads_more m n (op.Ite c a b) h w = (omega (arith, h, w.0), omega (arith, h, w.1), omega (arith, h, w.2))
reads_more m n (op.Pick i item a b) h w = (omega (arith, h, w.0), omega (arith, h, w.1), omega (arith, h, w.2))
reads_more m n (op.Fit a low high) h w = omega (arith, h, w)
reads_more m n (op.Bnot a k) h w = omega (arith, h, w)
reads_more m n (op.Cat a b k) h w = (omega (arith, h, w.0), omega (arith, h, w.1))
reads_more m n (op.Bits a high low) h w = omega (arith, h, w)

pub within_more : (m n : ℕ) (is : List Step) → m ≤ n → AreWithin m is → AreWithin n is
within_more m n [] h w = tt
within_more m n (i ∷ is) h w = ((omega (arith, h, w.0.0), reads_more m n i.operation h w.0.1), within_more m n is h w.1)
