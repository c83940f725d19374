use Rattle.std.proofs.Common.{◌≡◌, ◌≤◌, All, List, Bool, length, rules, sym, ap, ◌∙◌, subst}
use Rattle.std.specs.Prelude.{vec_capacity}
use Rattle.trace_io.specs.Header.{Named, unmarked_count}
use Rattle.trace_io.specs.Scan.{AreFields}
use Rattle.trace_io.proofs.HeaderLemmas.{marks_back}
use Rattle.trace_io.proofs.reader.TraceReader.take_header.Goals as goal

pub invariant_of-self : goal.invariant_of-self
invariant_of-self c =
    let new = c.read_names-self-inside.new.marks in
    let len : c.self.inside.marks.len ≡ length c.self.inside.marks.items = search rules in
    let long : length new ≡ length c.self.inside.marks.items = search rules in
    let back = marks_back new c.self.inside.marks.items c.self.inside.marks.len len long in (
      c.read_names-self-inside.ensures.sound (length c.self.inside.last.items) (subst (λ (is : List Named). All (λ i. AreFields (length c.self.inside.last.items) i.fields) is) (sym c.deref.ensures.value) c.self.invariant.1),
      c.self.invariant.1,
      c.self.invariant.2 ∙ (sym long ∙ ap length (sym back)),
      subst (λ (ms : List Bool). unmarked_count c.self.inside.inputs.items ms ≤ vec_capacity c.read_names-self-inside.new.fields) (sym back)
          (subst (λ (is : List Named). unmarked_count is new ≤ vec_capacity c.read_names-self-inside.new.fields) c.deref.ensures.value c.read_names-self-inside.ensures.room),
      λ e. absurd (cc e),
    )
