-- The names of the first module's inputs. They are words, since the names of all modules are. They differ, since no parameter repeats a
-- name. And their header isn't too long: rule by rule, the tokens of the parameters have a byte for each flow mark and the bytes of each
-- name, beside those of the module's name, and a text that has tokens isn't longer than a line.
use Rattle.std.proofs.Common.{◌≡◌, ◌<◌, ◌≤◌, ◌+◌, ℕ, zero, suc, Bool, true, false, not, ◌&&◌, ◌||◌, ◌==◌, nat_le, if◌then◌else◌, List, [], ◌∷◌, ◌++◌, length, map, Option, Some, None, All, refl, sym, ap, ap₂, subst, ◌∙◌, arith, append_assoc, append-nil, length-append}
use Rattle.std.specs.Prelude.{slice_index}
use Rattle.std.specs.List.{AllPass, list_any}
use Rattle.std.specs.Str.{bytes_eq}
use Rattle.std.proofs.lemmas.Bool.Decides.{nat_tests}
use Rattle.std.proofs.lemmas.List.Elements.{All-head, All-tail}
use Rattle.quartz_tree.specs.declared.place.Place.{Place}
use Rattle.quartz_tree.specs.declared.declare.Base.{Base}
use Rattle.quartz_tree.specs.declared.declare.Decl.{Decl}
use Rattle.quartz_tree.specs.declared.declare.Flow.TheVariants.{Input}
use Rattle.quartz_tree.specs.declared.declare.Init.{Init}
use Rattle.quartz_tree.specs.declared.declare.Storage.{Storage}
use Rattle.quartz_tree.specs.Surfaces.{Word, ModuleTree}
use Rattle.quartz_lexer.specs.Spelling.{is_word_byte, IsWord}
use Rattle.quartz_lexer.specs.Lexing.{Lexeme, Lexes, Reads, done, gap, token}
use Rattle.quartz_lexer.proofs.Spellings.{spelled_some}
use Rattle.quartz_parser.specs.declared.declaring.Typing.{Typing}
use Rattle.quartz_parser.specs.declared.symbol.Symbol.{Symbol}
use Rattle.quartz_parser.specs.declared.symbol.Symbol.TheVariants as s
use Rattle.quartz_parser.specs.Tokens.{Token, mark, name}
use Rattle.quartz_parser.specs.Grammar as g
use Rattle.quartz_parser.specs.Grammar.{IsBase, IsType, IsHead, IsConst, IsInit, IsFlow, IsParams, IsParamList, IsModule, IsText}
use Rattle.quartz_parser.specs.Parsing.{DerivesText}
use Rattle.quartz_parser.specs.Symbols.{symbol_of, token_with, tokens_of}
use Rattle.quartz_names.specs.NameRules.{repeated, repeated_after}
use Rattle.quartz_expr.specs.Kinds.{place_if}
use Rattle.quartz_expr.specs.Vars.{Vars}
use Rattle.quartz_expr.proofs.TruthLemmas.{or_parts}
use Rattle.front_laws.specs.Names.{WordsInDecls, WordsInModule}
use Rattle.front_laws.proofs.NameLemmas.{names_are_words}
use Rattle.trace_io.specs.Lines.{is_blank, is_short}
use Rattle.trace_io.specs.Inputs.{same_flow, are_different}
use Rattle.trace_writer.specs.declared.format.Format.TheVariants.{Headed}
use Rattle.trace_writer.specs.Anew.{input_names, spaced_words, new_header}
use Rattle.trace_writer.specs.Words.{IsInside, AreInside, IsWhole, AreWhole, CanBeNamed}
use Rattle.trace_writer.proofs.BackLemmas.{short_back}
use Rattle.header_laws.specs.Laws.{AreNoInputs, ParametersCanBeNamed}

-- ---- the names of inputs among declarations

abbrev names_in : List Decl → List (List ℕ)
names_in [] = []
names_in (d ∷ ds) = if same_flow Input d.flow then d.name ∷ names_in ds else names_in ds

of_vars : (vs : Vars) → input_names vs ≡ names_in (map (λ v. v.decl) vs)
of_vars [] = refl
of_vars (v ∷ vs) = ap (λ (ns : List (List ℕ)). if same_flow Input v.decl.flow then v.decl.name ∷ ns else ns) (of_vars vs)

no_names : (ds : List Decl) → AreNoInputs ds → names_in ds ≡ []
no_names [] h = refl
no_names (d ∷ ds) h = ap (λ (b : Bool). if b then d.name ∷ names_in ds else names_in ds) h.0 ∙ no_names ds h.1

names_both : (ds es : List Decl) → names_in es ≡ [] → names_in (ds ++ es) ≡ names_in ds
names_both [] es h = h
names_both (d ∷ ds) es h = ap (λ (ns : List (List ℕ)). if same_flow Input d.flow then d.name ∷ ns else ns) (names_both ds es h)

-- ---- words

byte_inside : (c : ℕ) → is_word_byte c ≡ true → IsInside c
byte_inside c h = record { blank = blank c h; end = end c h; return = return c h }
  where
    blank : (c : ℕ) → is_word_byte c ≡ true → is_blank c ≡ false
    blank c h = grind (arith, nat_tests)

    end : (c : ℕ) → is_word_byte c ≡ true → (c == 10) ≡ false
    end c h = grind (arith, nat_tests)

    return : (c : ℕ) → is_word_byte c ≡ true → (c == 13) ≡ false
    return c h = grind (arith, nat_tests)

bytes_inside : (cs : List ℕ) → AllPass is_word_byte cs → AreInside cs
bytes_inside [] h = tt
bytes_inside (c ∷ cs) h = (byte_inside c (All-head (λ b. is_word_byte b ≡ true) c cs h), bytes_inside cs (All-tail (λ b. is_word_byte b ≡ true) c cs h))

word_whole : (w : List ℕ) → IsWord w → IsWhole w
word_whole [] h = absurd (cc h.begins)
word_whole (c ∷ cs) h = bytes_inside (c ∷ cs) h.goes_on

names_whole : (ds : List Decl) → WordsInDecls ds → AreWhole (names_in ds)
names_whole [] h = tt
names_whole (d ∷ ds) h = by_flow (same_flow Input d.flow) (names_whole ds (All-tail (λ e. IsWord e.name) d ds h))
  where
    by_flow : (b : Bool) → AreWhole (names_in ds) → AreWhole (if b then d.name ∷ names_in ds else names_in ds)
    by_flow true k = (word_whole d.name (All-head (λ e. IsWord e.name) d ds h), k)
    by_flow false k = k

-- ---- different ones

not_seen : (b : Bool) (p : Place) (rest : List Place) → place_if b p ++ rest ≡ [] → (b ≡ false) × (rest ≡ [])
not_seen true p rest h = absurd (cc h)
not_seen false p rest h = (refl, h)

-- a name that was seen isn't among the others
unlike : (seen : Word → Bool) (ds : List Decl) (w : List ℕ) → repeated_after seen ds ≡ [] → ((x : Word) → bytes_eq w x ≡ true → seen x ≡ true) → list_any (bytes_eq w) (names_in ds) ≡ false
unlike seen [] w h k = refl
unlike seen (d ∷ ds) w h k =
    let parts = not_seen (seen d.name) d.place (repeated_after (λ y. bytes_eq d.name y || seen y) ds) h in
    by_flow (same_flow Input d.flow) (other (bytes_eq w d.name) refl parts.0) (unlike (λ y. bytes_eq d.name y || seen y) ds w parts.1 (λ x e. either (bytes_eq d.name x) (seen x) (k x e)))
  where
    either : (a b : Bool) → b ≡ true → (a || b) ≡ true
    either true b e = refl
    either false b e = e

    other : (b : Bool) → bytes_eq w d.name ≡ b → seen d.name ≡ false → bytes_eq w d.name ≡ false
    other true e f = absurd (cc (sym f ∙ k d.name e))
    other false e f = e

    by_flow : (b : Bool) → bytes_eq w d.name ≡ false → list_any (bytes_eq w) (names_in ds) ≡ false → list_any (bytes_eq w) (if b then d.name ∷ names_in ds else names_in ds) ≡ false
    by_flow true e f = ap₂ (λ (a b : Bool). a || b) e f
    by_flow false e f = f

names_differ : (seen : Word → Bool) (ds : List Decl) → repeated_after seen ds ≡ [] → are_different (names_in ds) ≡ true
names_differ seen [] h = refl
names_differ seen (d ∷ ds) h =
    let parts = not_seen (seen d.name) d.place (repeated_after (λ y. bytes_eq d.name y || seen y) ds) h in
    by_flow (same_flow Input d.flow) (unlike (λ y. bytes_eq d.name y || seen y) ds d.name parts.1 (λ x e. ap (λ (b : Bool). b || seen x) e)) (names_differ (λ y. bytes_eq d.name y || seen y) ds parts.1)
  where
    by_flow : (b : Bool) → list_any (bytes_eq d.name) (names_in ds) ≡ false → are_different (names_in ds) ≡ true → are_different (if b then d.name ∷ names_in ds else names_in ds) ≡ true
    by_flow true e f = ap₂ (λ (a b : Bool). not a && b) e f
    by_flow false e f = f

-- ---- bytes of tokens: those of a name, and one of a mark

abbrev size : Token → ℕ
size (mark _ _) = 1
size (name x _) = length x
size _ = 0

abbrev sizes : List Token → ℕ
sizes [] = 0
sizes (t ∷ ts) = size t + sizes ts

size_least : (k : Symbol) (x : List ℕ) (p : Place) → 0 < length x → size (token_with k x p) ≤ length x
size_least (s.Mark k) x p h = omega (arith, h)
size_least s.Name x p h = omega arith
size_least s.Number x p h = omega arith
size_least s.Bits x p h = omega arith
size_least (s.Truth b) x p h = omega arith
size_least (s.Storage k) x p h = omega arith
size_least (s.Scalar k) x p h = omega arith
size_least (s.Infix op) x p h = omega arith
size_least (s.Preempt b) x p h = omega arith
size_least s.Other x p h = omega arith

reads_sizes : (p : Place) (text : List ℕ) (ls : List Lexeme) (q : Place) (left : List ℕ) → Reads p text ls q left → sizes (tokens_of ls) ≤ length text
reads_sizes _ _ _ _ _ (done p text) = omega arith
reads_sizes _ _ _ _ _ (gap p bytes back ls q left k r) =
    let h : sizes (tokens_of ls) ≤ length back = reads_sizes _ back ls q left r in
    let e : length (bytes ++ back) ≡ length bytes + length back = length-append bytes back in
    omega (arith, h, e)
reads_sizes _ _ _ _ _ (token p k word back ls q left t r) =
    let h : sizes (tokens_of ls) ≤ length back = reads_sizes _ back ls q left r in
    let i : size (token_with (symbol_of k word) word p) ≤ length word = size_least (symbol_of k word) word p (spelled_some k word t.spelled) in
    let e : length (word ++ back) ≡ length word + length back = length-append word back in
    omega (arith, h, i, e)

base_size : {ts us : List Token} {b : Base} {p : Option Place} → IsBase ts us b p → sizes us ≤ sizes ts
base_size g.base_bool = omega arith
base_size g.base_sized = omega arith

type_size : {s : Storage} {ts us : List Token} {t : Typing} → IsType s ts us t → sizes us ≤ sizes ts
type_size (g.type_scalar h) = base_size h
type_size (g.type_array h) = let k = base_size h in omega (arith, k)

head_size : {ts us : List Token} {t : Typing} → IsHead ts us t → sizes us ≤ sizes ts
head_size (g.head_unstored h) = type_size h
head_size (g.head_stored h) = let k = type_size h in omega (arith, k)
head_size g.head_untyped = omega arith

const_size : {ts us : List Token} {i : Init} → IsConst ts us i → sizes us ≤ sizes ts
const_size g.const_truth = omega arith
const_size g.const_number = omega arith
const_size g.const_minus = omega arith
const_size g.const_bits = omega arith

init_size : {ts us : List Token} {i : Option Init} → IsInit ts us i → sizes us ≤ sizes ts
init_size g.init_without = omega arith
init_size (g.init_with h) = let k = const_size h in omega (arith, k)

-- a blank and the name for each input
abbrev header_size : List Decl → ℕ
header_size ds = length (spaced_words (names_in ds))

spaced_more : (ws : List (List ℕ)) (w : List ℕ) → length (spaced_words (ws ++ (w ∷ []))) ≡ length (spaced_words ws) + (1 + length w)
spaced_more [] w = let e : length (w ++ []) ≡ length w + 0 = length-append w [] in omega (arith, e)
spaced_more (v ∷ ws) w =
    let k : length (spaced_words (ws ++ (w ∷ []))) ≡ length (spaced_words ws) + (1 + length w) = spaced_more ws w in
    let a : length (v ++ spaced_words (ws ++ (w ∷ []))) ≡ length v + length (spaced_words (ws ++ (w ∷ []))) = length-append v (spaced_words (ws ++ (w ∷ []))) in
    let b : length (v ++ spaced_words ws) ≡ length v + length (spaced_words ws) = length-append v (spaced_words ws) in
    omega (arith, k, a, b)

names_more : (ds : List Decl) (d : Decl) → names_in (ds ++ (d ∷ [])) ≡ (if same_flow Input d.flow then names_in ds ++ (d.name ∷ []) else names_in ds)
names_more [] d = refl
names_more (e ∷ ds) d = ap (λ (ns : List (List ℕ)). if same_flow Input e.flow then e.name ∷ ns else ns) (names_more ds d) ∙ by_flows (same_flow Input e.flow) (same_flow Input d.flow)
  where
    by_flows : (a b : Bool) → (if a then e.name ∷ (if b then names_in ds ++ (d.name ∷ []) else names_in ds) else (if b then names_in ds ++ (d.name ∷ []) else names_in ds))
        ≡ (if b then (if a then e.name ∷ names_in ds else names_in ds) ++ (d.name ∷ []) else (if a then e.name ∷ names_in ds else names_in ds))
    by_flows true true = refl
    by_flows true false = refl
    by_flows false true = refl
    by_flows false false = refl

-- one parameter more
flow_size : {t : Typing} {ts us : List Token} {d : Decl} (ds : List Decl) → IsFlow t ts us d → header_size (ds ++ (d ∷ [])) + sizes us ≤ header_size ds + sizes ts
flow_size {d} ds (g.flow_input {x}) =
    let e : header_size (ds ++ (d ∷ [])) ≡ header_size ds + (1 + length x) = ap (λ (ns : List (List ℕ)). length (spaced_words ns)) (names_more ds d) ∙ spaced_more (names_in ds) x in
    omega (arith, e)
flow_size {d} ds (g.flow_output h) =
    let e : header_size (ds ++ (d ∷ [])) ≡ header_size ds = ap (λ (ns : List (List ℕ)). length (spaced_words ns)) (names_more ds d) in
    let k = init_size h in
    omega (arith, e, k)

params_size : {ts us : List Token} {ds : List Decl} {d : Decl} → IsParams ts us ds d → header_size ds + sizes us ≤ sizes ts
params_size (g.params_first h k) = let a = head_size h in let b = flow_size [] k in omega (arith, a, b)
params_size (g.params_typed {ds} h k l) = let a = params_size h in let b = head_size k in let c = flow_size ds l in omega (arith, a, b, c)
params_size (g.params_same {ds} h k) = let a = params_size h in let b = flow_size ds k in omega (arith, a, b)

list_size : {ts us : List Token} {ds : List Decl} → IsParamList ts us ds → header_size ds ≤ sizes ts
list_size g.list_none = omega arith
list_size (g.list_some h) = let a = params_size h in omega (arith, a)

module_size : {ts us : List Token} {m : ModuleTree} → IsModule ts us m → length m.name + header_size m.params ≤ sizes ts
module_size (g.module_one h _ _) = let a = list_size h in omega (arith, a)

not_empty : (x : ModuleTree) (ns : List ModuleTree) → ns ++ (x ∷ []) ≡ [] → ⊥
not_empty x [] f = cc f
not_empty x (y ∷ ns) f = cc f

some_module : {ts us : List Token} {ms : List ModuleTree} → IsText ts us ms → ms ≡ [] → ⊥
some_module (g.text_first _) f = cc f
some_module (g.text_also {ms} {m = n} _ _) f = not_empty n ms f

-- the first module's
first_size : {ts us : List Token} {ms : List ModuleTree} (m : ModuleTree) (rest : List ModuleTree) → IsText ts us ms → ms ≡ m ∷ rest → length m.name + header_size m.params ≤ sizes ts
first_size {ts} m rest (g.text_first {m = n} h) e =
    let same : n ≡ m = cc e in subst (λ (x : ModuleTree). length x.name + header_size x.params ≤ sizes ts) same (module_size h)
first_size {ts} m rest (g.text_also {ms} {m = n} h k) e = by_modules ms refl (λ ns f. first_size m ns h f)
  where
    by_modules : (ns : List ModuleTree) → ms ≡ ns → ((os : List ModuleTree) → ms ≡ m ∷ os → length m.name + header_size m.params ≤ sizes ts) → length m.name + header_size m.params ≤ sizes ts
    by_modules [] f on = absurd (some_module h f)
    by_modules (y ∷ ns) f on =
        let whole : y ∷ (ns ++ (n ∷ [])) ≡ m ∷ rest = ap (λ (l : List ModuleTree). l ++ (n ∷ [])) (sym f) ∙ e in
        let same : y ≡ m = cc whole in
        on ns (f ∙ ap (λ (x : ModuleTree). x ∷ ns) same)

some_byte : (w : List ℕ) → IsWord w → 0 < length w
some_byte [] h = absurd (cc h.begins)
some_byte (c ∷ cs) h = omega arith

-- ---- the whole

pub parameters_can_be_named : ParametersCanBeNamed
parameters_can_be_named text lexemes m modules others vs lexes derives apart none declared =
    let words : WordsInModule m = All-head WordsInModule m modules (names_are_words text lexemes (m ∷ modules) lexes derives) in
    let names : input_names vs ≡ names_in m.params = of_vars vs ∙ (ap names_in declared ∙ names_both m.params others (no_names others none)) in
    let few : length text ≤ 65536 = lexes.short in
    let read = reads_sizes _ text lexemes _ _ lexes.reads in
    let first = first_size m modules derives refl in
    let some = some_byte m.name words.name in
    let header : length (35 ∷ (spaced_words (names_in m.params) ++ (10 ∷ []))) ≤ 65537 = longest (spaced_words (names_in m.params)) (omega (arith, few, read, first, some)) in
    record {
      words = subst AreWhole (sym names) (names_whole m.params words.params);
      different = ap are_different names ∙ names_differ (λ _. false) m.params apart;
      short = ap (λ (ns : List (List ℕ)). is_short (35 ∷ (spaced_words ns ++ (10 ∷ [])))) names
          ∙ (sym (short_back (35 ∷ spaced_words (names_in m.params))) ∙ at_most (length (35 ∷ (spaced_words (names_in m.params) ++ (10 ∷ [])))) header);
    }
  where
    longest : (xs : List ℕ) → length xs + 1 ≤ 65536 → length (35 ∷ (xs ++ (10 ∷ []))) ≤ 65537
    longest xs h = let e : length (xs ++ (10 ∷ [])) ≡ length xs + 1 = length-append xs (10 ∷ []) in omega (arith, e, h)

    at_most : (n : ℕ) → n ≤ 65537 → nat_le n 65537 ≡ true
    at_most n h = grind (arith, nat_tests)
