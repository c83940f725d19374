-- Puts one after another.
use Rattle.std.proofs.Common.{Result, Ok, Err, OnOk, OnErr, ◌≡◌, ◌≤◌, inl, inr, ℕ, List, [], ◌++◌, sym, subst, arith}
use Rattle.std.specs.Result.{IsErr}
use Rattle.std.proofs.lemmas.List.{append-nil}
use Rattle.outside.specs.Bytes.{Gains, GainsBegun, Rose}
use Rattle.outside.specs.Puts.{Puts}
use Rattle.outside.specs.declared.source.Failed.{Failed}
use Rattle.outside.proofs.GainsLemmas.{gains_both, begun_first, begun_next}

-- nothing
pub puts_nothing : {S : Type 0} {stands : S → List ℕ → Type 0} {faults : S → ℕ} (s : S) → Puts stands faults (Ok tt) s s []
puts_nothing {stands} s = record { never_falls = omega arith; gained = λ bs h. subst (stands s) (sym (append-nil bs)) h; rose = tt; begun = tt }

rose_later : (a b c : ℕ) → a ≤ b → Rose b c → Rose a c
rose_later a b c h r = elim r [ inl k ↦ inl (omega (arith, h, k)) | inr e ↦ inr e ]

on_both : (r : Result (Unit {0}) Failed) (before mid after : List ℕ → Type 0) (xs ys : List ℕ) → Gains before mid xs → OnOk r (Gains mid after ys) → OnOk r (Gains before after (xs ++ ys))
on_both (Ok _) before mid after xs ys g h = gains_both before mid after xs ys g h
on_both (Err _) before mid after xs ys g h = tt

on_begun : (r : Result (Unit {0}) Failed) (before mid after : List ℕ → Type 0) (xs ys : List ℕ) → Gains before mid xs → OnErr r (GainsBegun mid after ys) → OnErr r (GainsBegun before after (xs ++ ys))
on_begun (Ok _) before mid after xs ys g h = tt
on_begun (Err _) before mid after xs ys g h = begun_next before mid after xs ys g h

on_rose : (r : Result (Unit {0}) Failed) (a b c : ℕ) → a ≤ b → OnErr r (Rose b c) → OnErr r (Rose a c)
on_rose (Ok _) a b c h k = tt
on_rose (Err _) a b c h k = rose_later a b c h k

-- bytes, and then others, or a part of them
pub puts_then : {S : Type 0} {stands : S → List ℕ → Type 0} {faults : S → ℕ} {u : Unit {0}} {r : Result (Unit {0}) Failed} {before mid after : S} {xs ys : List ℕ}
    → Puts stands faults (Ok u) before mid xs → Puts stands faults r mid after ys → Puts stands faults r before after (xs ++ ys)
puts_then {stands} {faults} {r} {before} {mid} {after} {xs} {ys} p q = record {
  never_falls = omega (arith, p.never_falls, q.never_falls);
  gained = on_both r (stands before) (stands mid) (stands after) xs ys p.gained q.gained;
  rose = on_rose r (faults before) (faults mid) (faults after) p.never_falls q.rose;
  begun = on_begun r (stands before) (stands mid) (stands after) xs ys p.gained q.begun;
}

first_by : (r : Result (Unit {0}) Failed) {S : Type 0} (stands : S → List ℕ → Type 0) (faults : S → ℕ) (e : Failed) (before after : S) (xs ys : List ℕ)
    → IsErr r → Puts stands faults (Err e) before after xs → Puts stands faults r before after (xs ++ ys)
first_by (Ok u) stands faults e before after xs ys h p = absurd (cc)
first_by (Err _) stands faults e before after xs ys h p = record {
  never_falls = p.never_falls;
  gained = tt;
  rose = p.rose;
  begun = begun_first (stands before) (stands after) xs ys p.begun;
}

-- a part of bytes that others were to follow
pub puts_first : {S : Type 0} {stands : S → List ℕ → Type 0} {faults : S → ℕ} {r : Result (Unit {0}) Failed} {e : Failed} {before after : S} {xs : List ℕ} (ys : List ℕ)
    → IsErr r → Puts stands faults (Err e) before after xs → Puts stands faults r before after (xs ++ ys)
puts_first {stands} {faults} {r} {e} {before} {after} {xs} ys h p = first_by r stands faults e before after xs ys h p

-- a part of bytes
pub puts_failed : {S : Type 0} {stands : S → List ℕ → Type 0} {faults : S → ℕ} {r : Result (Unit {0}) Failed} {e : Failed} {before after : S} {xs : List ℕ}
    → IsErr r → Puts stands faults (Err e) before after xs → Puts stands faults r before after xs
puts_failed {stands} {faults} {r} {e} {before} {after} {xs} h p = subst (Puts stands faults r before after) (append-nil xs) (first_by r stands faults e before after xs [] h p)

pub puts_same : {S : Type 0} {stands : S → List ℕ → Type 0} {faults : S → ℕ} {r : Result (Unit {0}) Failed} {before after : S} {xs ys : List ℕ}
    → xs ≡ ys → Puts stands faults r before after xs → Puts stands faults r before after ys
puts_same {stands} {faults} {r} {before} {after} e p = subst (Puts stands faults r before after) e p
