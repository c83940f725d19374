-- The term that a form is.
use Rattle.std.specs.Prelude.{List, [], ◌∷◌, option_map}
use Rattle.quartz_tree.specs.Tree.{tree}
use Rattle.quartz_expr.specs.Terms.{Term, nothing, pause, write, choose, seq, par, loop, guard_of, scope, Terms, none, part}
use Rattle.sos_model.specs.declared.form.Form.{Form}
use Rattle.sos_model.specs.declared.form.Form.TheOpen.{Form-F}
use Rattle.sos_model.specs.declared.form.Form.TheFolds.{fold-Form}

abbrev pub terms : List Term → Terms
terms [] = none
terms (t ∷ ts) = part t (terms ts)

-- one level, with the term of each part in its place
abbrev pub term_step : Form-F Term → Term
term_step Form-F.Nothing = nothing
term_step Form-F.Pause = pause
term_step (Form-F.Write var index value delayed place target_place) = write var (option_map tree index) (tree value) delayed place target_place
term_step (Form-F.If c a b) = choose (tree c) a.value b.value
term_step (Form-F.Seq parts) = seq (terms parts.items)
term_step (Form-F.Par parts) = par (terms parts.items)
term_step (Form-F.Loop body c) = loop body.value (tree c)
term_step (Form-F.Guard abort weak immediate body c) = guard_of abort weak immediate body.value (tree c)
term_step (Form-F.Scope var store body) = scope var (option_map (λ v. v.items) store) body.value

-- the term of a form
abbrev pub term : Form → Term
term = fold-Form Term term_step
