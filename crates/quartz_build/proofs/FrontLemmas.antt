-- What the front of a text answers.
use Rattle.std.proofs.Common.{◌≡◌, ◌≢◌, ℕ, Bool, true, false, if◌then◌else◌, List, [], ◌∷◌, length, map, Option, Some, None, Result, Ok, Err, refl, sym, ap, subst, ◌∙◌}
use Rattle.quartz_tree.specs.declared.place.Place.{Place}
use Rattle.quartz_tree.specs.declared.surface.Module.{Module}
use Rattle.quartz_tree.specs.Kernel.{Kernel, kernel}
use Rattle.quartz_tree.specs.Least.{least_place}
use Rattle.quartz_tree.specs.Surfaces.{ModuleTree, module_tree}
use Rattle.quartz_lexer.specs.declared.fault.LexFault.{LexFault}
use Rattle.quartz_lexer.specs.declared.fault.LexFault.TheVariants as lexing
use Rattle.quartz_lexer.specs.declared.token.Tokens.{Tokens}
use Rattle.quartz_lexer.specs.Lexing.{Lexeme, Breaks, lexemes, origin, AreTokensOf}
use Rattle.quartz_parser.specs.declared.fault.ParseFault.{ParseFault}
use Rattle.quartz_parser.specs.declared.fault.ParseFault.TheVariants as parsing
use Rattle.quartz_parser.specs.Parsing.{DerivesText, HasText, Breaks as Stops}
use Rattle.quartz_expr.specs.Vars.{Vars}
use Rattle.quartz_names.specs.declared.fault.NamesFault.{NamesFault}
use Rattle.quartz_names.specs.declared.fault.NamesFault.TheVariants as naming
use Rattle.quartz_names.specs.declared.resolving.Resolved.{Resolved}
use Rattle.quartz_names.specs.Resolving.{has_call, module_name_breaks, resolved_body, resolved_vars}
use Rattle.quartz_types.specs.declared.fault.TypeFault.{TypeFault}
use Rattle.quartz_types.specs.declared.fault.TypeFault.TheVariants as typing
use Rattle.quartz_types.specs.declared.typed.Typed.{Typed}
use Rattle.quartz_types.specs.Rules.{first_break, with_rule}
use Rattle.quartz_build.specs.declared.fault.BuildFault.{BuildFault}
use Rattle.quartz_build.specs.declared.fault.BuildFault.TheVariants as fault
use Rattle.quartz_build.specs.Broken.{by_tokens, by_grammar, by_rule, early, IsTextOf, typing_refusal, refusal_of, unbuilt}
use Rattle.quartz_build.specs.Parts.{CheckedAs, FrontAs, IsTypedOf, JudgedAs}
use Rattle.quartz_build.specs.Refusals.{lex_refusal, names_refusal, parse_refusal, types_refusal}

pub tokens_refused : (text : List ℕ) (f : LexFault) → ((p : Place) → f ≡ lexing.S1 p → Breaks text p) → FrontAs text (Err (lex_refusal f))
tokens_refused text (lexing.S1 p) h = early text 1 p (by_tokens text p (h p refl))
tokens_refused text lexing.NoMemory h = tt

pub grammar_refused : (text : List ℕ) (tokens : Tokens) (f : ParseFault) → AreTokensOf text tokens
    → ((p : Place) → f ≡ parsing.S2 p → Stops HasText (lexemes text tokens.items.items) tokens.end p) → FrontAs text (Err (parse_refusal f))
grammar_refused text tokens (parsing.S2 p) t h =
    early text 2 p (by_grammar text (lexemes text tokens.items.items) p t.lexed (subst (λ (e : Place). Stops HasText (lexemes text tokens.items.items) e p) t.end (h p refl)))
grammar_refused text tokens parsing.NoMemory t h = tt

pub types_refused : (resolved : Resolved) (f : TypeFault) → ((r : ℕ) (p : Place) → f ≡ typing.Rule r p → first_break resolved.vars (kernel resolved.body) ≡ Some (r, p)) → CheckedAs resolved (Err (types_refusal f))
types_refused resolved (typing.Rule r p) h = h r p refl
types_refused resolved typing.NoMemory h = tt

-- a module without calls
plain : (m : ModuleTree) → has_call m.body ≡ false → typing_refusal m ≡ with_rule 3 (least_place (module_name_breaks m)) (first_break (resolved_vars m) (resolved_body m))
plain m c = ap (λ b. if b then unbuilt else with_rule 3 (least_place (module_name_breaks m)) (first_break (resolved_vars m) (resolved_body m))) c

-- a module that breaks no rule of names
named : (m : ModuleTree) → has_call m.body ≡ false → least_place (module_name_breaks m) ≡ None → typing_refusal m ≡ first_break (resolved_vars m) (resolved_body m)
named m c n = plain m c ∙ ap (λ o. with_rule 3 o (first_break (resolved_vars m) (resolved_body m))) n

pub with_calls : (m : ModuleTree) → has_call m.body ≡ true → refusal_of (m ∷ []) ≡ Some (0, origin)
with_calls m c = ap (λ b. if b then unbuilt else with_rule 3 (least_place (module_name_breaks m)) (first_break (resolved_vars m) (resolved_body m))) c

pub badly_named : (m : ModuleTree) (f : NamesFault) → has_call m.body ≡ false → ((p : Place) → f ≡ naming.S3 p → least_place (module_name_breaks m) ≡ Some p) → JudgedAs (m ∷ []) (Err (names_refusal f))
badly_named m (naming.S3 p) c h = plain m c ∙ ap (λ o. with_rule 3 o (first_break (resolved_vars m) (resolved_body m))) (h p refl)
badly_named m naming.NoMemory c h = tt

-- a module that was judged behind the rule of names
pub checked_module : (m : ModuleTree) (resolved : Resolved) (r : Result Typed BuildFault) → has_call m.body ≡ false → least_place (module_name_breaks m) ≡ None
    → resolved.name ≡ m.name → resolved.vars ≡ resolved_vars m → kernel resolved.body ≡ resolved_body m → CheckedAs resolved r → JudgedAs (m ∷ []) r
checked_module m resolved r c n i v b h = judged r h
  where
    unbroken : first_break resolved.vars (kernel resolved.body) ≡ typing_refusal m
    unbroken = ap (λ (vs : Vars). first_break vs (kernel resolved.body)) v ∙ (ap (λ (k : Kernel). first_break (resolved_vars m) k) b ∙ sym (named m c n))

    judged : (r : Result Typed BuildFault) → CheckedAs resolved r → JudgedAs (m ∷ []) r
    judged (Ok typed) k =
        let of_tree : IsTypedOf m typed =
        record {
          name_is = ap (λ (s : Resolved). s.name) k.0 ∙ i;
          vars_are = ap (λ (s : Resolved). s.vars) k.0 ∙ v;
          body_is = ap (λ (s : Resolved). kernel s.body) k.0 ∙ b;
        } in
        (m, refl, sym unbroken ∙ k.1, of_tree)
    judged (Err fault.NoMemory) k = tt
    judged (Err (fault.Refused q p)) k = sym unbroken ∙ k

-- no module, or several
pub not_alone : (ms : List Module) → length ms ≢ 1 → refusal_of (map module_tree ms) ≡ Some (0, origin)
not_alone [] h = refl
not_alone (m ∷ []) h = absurd (h refl)
not_alone (m ∷ n ∷ ms) h = refl

pub front_as : (text : List ℕ) (tokens : Tokens) (ms : List ModuleTree) (r : Result Typed BuildFault) → AreTokensOf text tokens
    → DerivesText (lexemes text tokens.items.items) ms → JudgedAs ms r → FrontAs text r
front_as text tokens ms (Ok typed) t d (m, e, k, i) = (
  m,
  record {
    typed = record {
      read = record { tokens = lexemes text tokens.items.items; lexes = t.lexed; derives = subst (DerivesText (lexemes text tokens.items.items)) e d };
      unbroken = k;
    };
    good = tt;
  },
  i,
)
front_as text tokens ms (Err fault.NoMemory) t d h = tt
front_as text tokens ms (Err (fault.Refused r p)) t d h = early text r p (by_rule text ms r p (record { tokens = lexemes text tokens.items.items; lexes = t.lexed; derives = d }) h)
