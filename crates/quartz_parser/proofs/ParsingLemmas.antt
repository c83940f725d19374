-- What the reader's way through the tokens says of the grammar.
use Rattle.std.proofs.Common.{◌≡◌, true, false, List, [], ◌∷◌, Some, None, refl, sym, ◌∙◌, subst}
use Rattle.std.specs.Prelude.{Err, IsErrOf}
use Rattle.quartz_parser.specs.declared.fault.ParseFault.{ParseFault}
use Rattle.quartz_parser.specs.declared.fault.ParseFault.TheVariants.{S2}
use Rattle.quartz_tree.specs.declared.place.Place.{Place}
use Rattle.quartz_tree.specs.Surfaces.{ModuleTree}
use Rattle.quartz_lexer.specs.Lexing.{Lexeme}
use Rattle.quartz_parser.specs.declared.parsing.Reached.{Reached}
use Rattle.quartz_parser.specs.Parsing.{DerivesModule, DerivesText, HasModule, HasText, Breaks}
use Rattle.quartz_parser.specs.ReaderViews.{left_by}
use Rattle.quartz_parser.specs.Reading.{Ends, StopsAt}
use Rattle.quartz_parser.proofs.Agreement.{reads_modules, reads_texts}

module _ (ls : List Lexeme) where
  pub module_stops : (end p : Place) → StopsAt false ls p → Breaks HasModule ls end p
  module_stops end p s = subst (Breaks HasModule ls end) (sym s.here) ((reads_modules ls).broken_at s.front s.back s.token end s.state s.whole s.runs s.stuck)

  pub text_stops : (end p : Place) → StopsAt true ls p → Breaks HasText ls end p
  text_stops end p s = subst (Breaks HasText ls end) (sym s.here) ((reads_texts ls).broken_at s.front s.back s.token end s.state s.whole s.runs s.stuck)

  pub module_ends : (r : Reached) (n : ModuleTree) → Ends false ls r → left_by false r.end r.reader ≡ Some (n ∷ []) → DerivesModule ls n
  module_ends r n e h = (reads_modules ls).derived e.state n e.runs (sym e.read ∙ h)

  pub text_ends : (r : Reached) (ns : List ModuleTree) → Ends true ls r → left_by true r.end r.reader ≡ Some ns → DerivesText ls ns
  text_ends r ns e h = (reads_texts ls).derived e.state ns e.runs (sym e.read ∙ h)

  pub module_open : (r : Reached) (end : Place) → Ends false ls r → left_by false r.end r.reader ≡ None → Breaks HasModule ls end end
  module_open r end e h = (reads_modules ls).broken_end end e.state e.runs (sym e.read ∙ h)

  pub text_open : (r : Reached) (end : Place) → Ends true ls r → left_by true r.end r.reader ≡ None → Breaks HasText ls end end
  text_open r end e h = (reads_texts ls).broken_end end e.state e.runs (sym e.read ∙ h)

-- a fault that is passed on
pub same_fault : {T : Type 0} (f : ParseFault) (p : Place) → IsErrOf {T = T} (Err f) (S2 p) → IsErrOf {T = Reached} (Err f) (S2 p)
same_fault f p e =
    let same : f ≡ S2 p = cc in
    let P : ParseFault → Type 0 = λ g. IsErrOf {T = Reached} (Err f) g in subst P same refl
