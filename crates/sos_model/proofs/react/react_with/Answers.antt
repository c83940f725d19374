use Rattle.std.proofs.Common.{◌≡◌, ◌∙◌, ℤ, Err, refl, rules, subst}
use Rattle.std.specs.Prelude.{Result}
use Rattle.quartz_expr.specs.Vars.{Vars}
use Rattle.sos_model.specs.declared.fault.ReactFault.{ReactFault}
use Rattle.sos_model.specs.declared.fault.ReactFault.TheVariants.{Differs}
use Rattle.sos_model.specs.declared.react.Reaction.{Reaction}
use Rattle.sos_model.specs.FormTerms.{term}
use Rattle.sos_model.specs.Found.{Finds, met_of}
use Rattle.sos_model.proofs.AnswerLemmas.{is_unresolved, never_unresolved}
use Rattle.sos_model.proofs.WalkLemmas.{same_finds}
use Rattle.sos_model.proofs.react.react_with.Goals as goal

differs_same : (a b w g : ℤ) (r : Result Reaction ReactFault) → r ≡ Err (Differs a b) → r ≡ Err (Differs w g) → (w ≡ a) × (g ≡ b)
differs_same a b w g r h e = (cc, cc)

pub returns-in-Some-clause-differs : goal.returns-in-Some-clause-differs
returns-in-Some-clause-differs c = λ wanted given e.
    let t = term c.args.before.now.form in
    let walked = subst (λ (vs : Vars). Finds vs c.in_ok-own.own.values t c.args.scopes.now c.in-Ok.found) c.vars.ensures c.in-Ok.ensures.walked in
    let finds = same_finds c.args.before.now.vars c.args.env.now.values c.in_ok-own.own.values t c.args.scopes.now c.args.scopes.now c.in-Ok.found walked c.in_ok-own.ensures refl in
    let same = differs_same _ _ wanted given _ refl e in
    let wants : wanted ≡ c.in-Some.meeting.wanted = same.0 ∙ search rules in
    let gives : given ≡ c.in-Some.meeting.given = same.1 ∙ search rules in
    is_unresolved c.args.before.now.vars c.args.env.now.values t c.args.scopes.now c.in-Ok.found (met_of c.in-Some.meeting) wanted given finds (search rules) wants gives

pub returns-in-Some-clause-complete : goal.returns-in-Some-clause-complete
returns-in-Some-clause-complete c = λ r rest h e.
    let t = term c.args.before.now.form in
    let walked = subst (λ (vs : Vars). Finds vs c.in_ok-own.own.values t c.args.scopes.now c.in-Ok.found) c.vars.ensures c.in-Ok.ensures.walked in
    let finds = same_finds c.args.before.now.vars c.args.env.now.values c.in_ok-own.own.values t c.args.scopes.now c.args.scopes.now c.in-Ok.found walked c.in_ok-own.ensures refl in
    absurd (never_unresolved c.args.before.now.vars c.args.env.now.values t r c.args.scopes.now rest c.in-Ok.found (met_of c.in-Some.meeting) c.args.before.now.sound h e finds (search rules))
