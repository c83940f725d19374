use Rattle.std.proofs.Common.{◌<◌, ◌∙◌, ap, ap₂, sym, subst, refl, List, ℕ, ℤ, length, drop}
use Rattle.quartz_tree.specs.declared.declare.Base.{Base}
use Rattle.trace_io.specs.Generator.{Generator, bytes_left}
use Rattle.trace_io.specs.Writing.{line_of_types, all_in_range, drawn_values, number_behind}
use Rattle.trace_io.proofs.GenerateLemmas.{next_line, some_line}
use Rattle.trace_io.proofs.generate.TraceGen.make_next.Goals as goal

pub returns-clause-same : goal.returns-clause-same
returns-clause-same c =
    next_line c.self.inside.types.items c.self.inside.number c.draw_values-self-inside.result _ c.self.inside.steps c.make_line.new.line.items (drop c.self.inside.at c.self.inside.line.items) c.draw_values-self-inside.new.values.items
    c.self.invariant.0 (ap (λ (g : Generator). g.rest) c.self.view_is ∙ c.requires.none) (subst (λ (g : Generator). 0 < g.steps) (sym c.self.view_is) c.requires.some) refl
    (c.make_line.ensures.text ∙ ap₂ (λ (a : List Base) (b : List ℤ). line_of_types a (all_in_range a b)) c.deref-2.ensures.value c.deref-3.ensures.value)
    (c.draw_values-self-inside.ensures.values ∙ ap (λ (a : List Base). drawn_values a c.self.inside.number) c.deref.ensures.value)
    (c.draw_values-self-inside.ensures.number ∙ ap (λ (a : List Base). number_behind a c.self.inside.number) c.deref.ensures.value)
    ∙ ap bytes_left c.self.view_is

pub returns-clause-begun : goal.returns-clause-begun
returns-clause-begun c = subst (λ (l : List ℕ). 0 < length l) (sym c.make_line.ensures.text) (some_line c.deref-2.result.now (all_in_range c.deref-2.result.now c.deref-3.result.now))
