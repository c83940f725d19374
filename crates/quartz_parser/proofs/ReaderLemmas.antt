-- The reader of the program through its tokens.
use Rattle.std.proofs.Common.{◌≡◌, ◌<◌, ◌≤◌, ◌+◌, ℕ, zero, suc, Bool, true, false, List, [], ◌∷◌, ◌++◌, length, take, drop, map, get_or, Option, Some, None, refl, sym, ap, subst, ◌∙◌, arith, add-one}
use Rattle.std.proofs.lemmas.List.{map-append}
use Rattle.std.specs.Prelude.{option_and_then, Err, IsErrOf}
use Rattle.std.proofs.Math.Seq.{take-suc}
use Rattle.quartz_tree.specs.declared.place.Place.{Place}
use Rattle.quartz_tree.specs.declared.surface.Module.{Module}
use Rattle.quartz_tree.specs.Surfaces.{ModuleTree, module_tree}
use Rattle.quartz_lexer.specs.declared.token.Token.{Token}
use Rattle.quartz_lexer.specs.Lexing.{Lexeme, lexeme, lexemes}
use Rattle.quartz_parser.specs.declared.symbol.Mark.TheVariants as m
use Rattle.quartz_parser.specs.declared.reader.Reader.{Reader}
use Rattle.quartz_parser.specs.declared.reader.Rest.TheVariants.{Between, Head}
use Rattle.quartz_parser.specs.declared.heading.Heading.TheVariants.{Named}
use Rattle.quartz_parser.specs.Tokens as t
use Rattle.quartz_parser.specs.Machine.{State, step, run, several, ended}
use Rattle.quartz_parser.specs.Symbols.{token_of, tokens_of}
use Rattle.quartz_parser.specs.Views.{is_mark, token}
use Rattle.quartz_parser.specs.declared.item.Item.{Item}
use Rattle.quartz_parser.specs.declared.parsing.Reached.{Reached}
use Rattle.quartz_parser.specs.declared.fault.ParseFault.TheVariants.{S2}
use Rattle.quartz_parser.specs.ReaderViews.{rest_state, start_state}
use Rattle.quartz_parser.specs.Reading.{StopsAt}
use Rattle.quartz_parser.proofs.TokenLemmas.{expected, unexpected}

pub module_begins : (many : Bool) (r : Reader) (u : t.Token) → is_mark m.Module u ≡ true → Some (rest_state many (Head Named) r) ≡ step (rest_state many Between r) u
module_begins true r (t.mark m.Module p) h = refl
module_begins true r (t.mark _ p) h = cc
module_begins true r _ h = cc
module_begins false r u h = expected m.Module _ u h

pub no_module_begins : (many : Bool) (r : Reader) (u : t.Token) → is_mark m.Module u ≡ false → None ≡ step (rest_state many Between r) u
no_module_begins true r (t.mark m.Module p) h = cc
no_module_begins true r (t.mark _ p) h = refl
no_module_begins true r _ h = refl
no_module_begins false r u h = unexpected m.Module _ u h

pub run_more : (s q q' : State) (ts : List t.Token) (u : t.Token) → run s ts ≡ Some q → step q u ≡ Some q' → run s (ts ++ u ∷ []) ≡ Some q'
run_more s q q' [] u h g =
    let same : s ≡ q = cc in
    ap (λ o. option_and_then (λ x. run x []) o) (ap (λ x. step x u) same ∙ g)
run_more s q q' (v ∷ ts) u h g = at (step s v) h (λ x. run_more x q q' ts u)
  where
    at : (o : Option State) → option_and_then (λ x. run x ts) o ≡ Some q → ((x : State) → run x ts ≡ Some q → step q u ≡ Some q' → run x (ts ++ u ∷ []) ≡ Some q') → option_and_then (λ x. run x (ts ++ u ∷ [])) o ≡ Some q'
    at None e go = absurd (cc)
    at (Some x) e go = go x e g

-- the tokens up to and with one
pub taken_more : (text : List ℕ) (items : List Token) (i : ℕ) (d : Token) → i < length items →
    lexemes text (take (i + 1) items) ≡ lexemes text (take i items) ++ lexeme text (get_or items i d) ∷ []
taken_more text items i d lt = ap (λ n. lexemes text (take n items)) (add-one i) ∙ ap (lexemes text) (take-suc items i d lt) ∙ map-append (lexeme text) (take i items) (get_or items i d ∷ [])

pub read_more : (many : Bool) (text : List ℕ) (items : List Token) (i : ℕ) (d : Token) (q q' : State) → i < length items →
    run (start_state many) (tokens_of (lexemes text (take i items))) ≡ Some q → step q (token_of (lexeme text (get_or items i d))) ≡ Some q' →
    run (start_state many) (tokens_of (lexemes text (take (i + 1) items))) ≡ Some q'
read_more many text items i d q q' lt h g =
    ap (λ l. run (start_state many) (tokens_of l)) (taken_more text items i d lt)
    ∙ ap (run (start_state many)) (map-append token_of (lexemes text (take i items)) (lexeme text (get_or items i d) ∷ []))
    ∙ run_more (start_state many) q q' (tokens_of (lexemes text (take i items))) (token_of (lexeme text (get_or items i d))) h g

split_at : (text : List ℕ) (items : List Token) (i : ℕ) (d : Token) → i < length items →
    lexemes text items ≡ lexemes text (take i items) ++ lexeme text (get_or items i d) ∷ lexemes text (drop (suc i) items)
split_at text [] i d lt = absurd (omega arith)
split_at text (x ∷ items) zero d lt = refl
split_at text (x ∷ items) (suc i) d lt = ap (λ l. lexeme text x ∷ l) (split_at text items i d (omega arith))

pub stops : (many : Bool) (text : List ℕ) (items : List Token) (i : ℕ) (d : Token) (q : State) (p : Place) → i < length items →
    run (start_state many) (tokens_of (lexemes text (take i items))) ≡ Some q → step q (token_of (lexeme text (get_or items i d))) ≡ None → p ≡ (lexeme text (get_or items i d)).place →
    StopsAt many (lexemes text items) p
stops many text items i d q p lt h g e =
    record { front = lexemes text (take i items); token = lexeme text (get_or items i d); back = lexemes text (drop (suc i) items); state = q; whole = split_at text items i d lt; runs = h; stuck = g; here = e }

pub some_modules : (ms : List Module) → 0 < length ms → ended (several (map module_tree ms)) ≡ Some (map module_tree ms)
some_modules [] h = absurd (omega arith)
some_modules (n ∷ ms) h = refl

pub no_modules : (ms : List Module) → length ms ≡ 0 → ended (several (map module_tree ms)) ≡ None
no_modules [] h = refl
no_modules (n ∷ ms) h = absurd (omega arith)

module _ (many : Bool) (text : List ℕ) (items ds : List Token) (i : ℕ) (d : Token) (q : State) (it : Item) where
  -- one token more is read
  pub read_on : (q' : State) → ds ≡ items → i < length ds → run (start_state many) (tokens_of (lexemes text (take i items))) ≡ Some q →
      token it (get_or ds i d).place ≡ token_of (lexeme text (get_or ds i d)) → step q (token it (get_or ds i d).place) ≡ Some q' →
      run (start_state many) (tokens_of (lexemes text (take (i + 1) items))) ≡ Some q'
  read_on q' same =
      subst
      (λ l. i < length l → run (start_state many) (tokens_of (lexemes text (take i items))) ≡ Some q → token it (get_or l i d).place ≡ token_of (lexeme text (get_or l i d)) → step q (token it (get_or l i d).place) ≡ Some q' →
      run (start_state many) (tokens_of (lexemes text (take (i + 1) items))) ≡ Some q')
      (sym same) (λ lt h e g. read_more many text items i d q q' lt h (ap (step q) (sym e) ∙ g))

  -- the reader stops at a token
  pub stops_on : (p : Place) → ds ≡ items → i < length ds → run (start_state many) (tokens_of (lexemes text (take i items))) ≡ Some q →
      token it (get_or ds i d).place ≡ token_of (lexeme text (get_or ds i d)) → step q (token it (get_or ds i d).place) ≡ None → IsErrOf {T = Reached} (Err (S2 (get_or ds i d).place)) (S2 p) →
      StopsAt many (lexemes text items) p
  stops_on p same =
      subst
      (λ l. i < length l → run (start_state many) (tokens_of (lexemes text (take i items))) ≡ Some q → token it (get_or l i d).place ≡ token_of (lexeme text (get_or l i d)) → step q (token it (get_or l i d).place) ≡ None →
      IsErrOf {T = Reached} (Err (S2 (get_or l i d).place)) (S2 p) → StopsAt many (lexemes text items) p)
      (sym same) (λ lt h e g r. let here : (get_or items i d).place ≡ p = cc in stops many text items i d q p lt h (ap (step q) (sym e) ∙ g) (sym here))
