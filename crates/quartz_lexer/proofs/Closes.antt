-- Where the first `*/` stands, from its bytes by index.
use Rattle.std.proofs.Common.{◌≡◌, ℕ, ◌+◌, ◌<◌, ◌≤◌, List, [], ◌∷◌, ◌++◌, length, take, drop, slice_index, codes, refl, sym, ap, ◌∙◌, arith, take-append-drop, length-append, append_assoc, append-nil, get_or-append-add}
use Rattle.std.proofs.lemmas.List.{drop_more, length-take-le, get_or_at}
use Rattle.quartz_lexer.specs.Lexing.{HasClose}
use Rattle.quartz_lexer.specs.Piece.{ClosesAt}

-- no `*/` begins below this index
abbrev pub NoneBelow : List ℕ → ℕ → Type 0
NoneBelow text at = (k : ℕ) → k < at → slice_index text k ≡ 42 → slice_index text (k + 1) ≡ 47 → ⊥

-- a `*/` in a front stands below its end
close_at : (text : List ℕ) (at : ℕ) → NoneBelow text at → (before after rest : List ℕ) → text ≡ (before ++ (codes "*/" ++ after)) ++ rest → length before < at → ⊥
close_at text at none before after rest e h =
    let whole : text ≡ before ++ (codes "*/" ++ (after ++ rest)) = e ∙ append_assoc before (codes "*/" ++ after) rest in
    let star : slice_index text (length before) ≡ 42 = rw whole (get_or_at before 42 (47 ∷ (after ++ rest)) 0 (length before) refl) in
    let slash : slice_index text (length before + 1) ≡ 47 = rw whole (get_or-append-add before (codes "*/" ++ (after ++ rest)) 1 0) in
    none (length before) h star slash

pub closes_here : (text : List ℕ) (at : ℕ) → at + 1 < length text → slice_index text at ≡ 42 → slice_index text (at + 1) ≡ 47 → NoneBelow text at → ClosesAt text at
closes_here text at h star slash none =
    let here : drop at text ≡ slice_index text at ∷ drop (at + 1) text = drop_more text at 0 (omega arith) in
    let next : drop (at + 1) text ≡ slice_index text (at + 1) ∷ drop (at + 1 + 1) text = drop_more text (at + 1) 0 h in
    let same : at + 1 + 1 ≡ at + 2 = omega arith in
    let two : drop at text ≡ codes "*/" ++ drop (at + 2) text = rw (here, next, star, slash, same) refl in
    record {
      is = sym (take-append-drop at text) ∙ ap (λ t. take at text ++ t) two;
      within = omega arith;
      first = λ (before, after, e).
          let len : length (take at text) ≡ length before + length (codes "*/" ++ after) = ap length e ∙ length-append before (codes "*/" ++ after) in
          let fits : length (take at text) ≡ at = length-take-le at text (omega arith) in
          close_at text at none before after (drop at text) (sym (take-append-drop at text) ∙ ap (λ t. t ++ drop at text) e) (omega arith);
    }

pub no_close : (text : List ℕ) (at : ℕ) → length text ≤ at + 1 → NoneBelow text at → ¬ (HasClose text)
no_close text at h none (before, after, e) =
    let len : length text ≡ length before + length (codes "*/" ++ after) = ap length e ∙ length-append before (codes "*/" ++ after) in
    close_at text at none before after [] (e ∙ sym (append-nil (before ++ (codes "*/" ++ after)))) (omega arith)
