-- What converted traces say to the modules that are accepted.
use Rattle.std.specs.Prelude.{◌≡◌, ◌↔◌, ℕ, List}
use Rattle.quartz_tree.specs.Surfaces.{ModuleTree}
use Rattle.quartz_names.specs.Resolving.{resolved_body, resolved_vars}
use Rattle.quartz_build.specs.Broken.{IsAccepted, Scrutiny}
use Rattle.trace_io.specs.Reading.{steps}
use Rattle.trace_io.specs.Story.{End, Story, done}
use Rattle.trace_writer.specs.declared.format.Format.{Format}
use Rattle.trace_writer.specs.Anew.{tale}
use Rattle.convert_laws.specs.Laws.{converted}

-- the trace is converted to its end for this module
abbrev pub IsConverted : Format → ModuleTree → (greatest : ℕ) → (trace : List ℕ) → Type 0
IsConverted f m greatest trace = (tale f (resolved_vars m) greatest (steps (resolved_vars m) trace)).end ≡ done

-- its new form
abbrev pub converted_trace : Format → ModuleTree → (greatest : ℕ) → (trace : List ℕ) → List ℕ
converted_trace f m greatest trace = converted f (resolved_vars m) greatest (steps (resolved_vars m) trace)

-- however far the text of a module was judged, a trace that is converted to its end has the same steps in its new form
abbrev pub ConvertedTextsSayTheSame : Type 0
ConvertedTextsSayTheSame = (scrutiny : Scrutiny) (text : List ℕ) (m : ModuleTree) (f : Format) (greatest : ℕ) (trace : List ℕ)
    → IsAccepted scrutiny text m → IsConverted f m greatest trace
    → steps (resolved_vars m) (converted_trace f m greatest trace) ≡ steps (resolved_vars m) trace

-- so the module has the same stories over both
abbrev pub ConvertedTextsRunTheSame : Type 0
ConvertedTextsRunTheSame = (scrutiny : Scrutiny) (text : List ℕ) (m : ModuleTree) (f : Format) (greatest : ℕ) (trace : List ℕ)
    → IsAccepted scrutiny text m → IsConverted f m greatest trace
    → (most : ℕ) (written : List (List ℕ)) (e : End)
    → Story (resolved_vars m) (resolved_body m) trace most written e ↔ Story (resolved_vars m) (resolved_body m) (converted_trace f m greatest trace) most written e
