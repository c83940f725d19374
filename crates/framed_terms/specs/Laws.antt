-- What a term with calls has in common with the plain term in which called bodies stand in the places of calls.
use Rattle.quartz_expr.specs.Values.{Values}
use Rattle.quartz_expr.specs.Vars.{Vars}
use Rattle.quartz_expr.specs.Terms.{Term}
use Rattle.quartz_expr.specs.React as plain
use Rattle.quartz_expr.specs.React.{AllResolved}
use Rattle.framed_terms.specs.Framed.{Framed, Meanings}
use Rattle.framed_terms.specs.Reacting.{Reaction, React}
use Rattle.framed_terms.specs.Similar.{Carry, Sim, Agree, Related}

-- each reaction of the framed term is one of the plain term
abbrev pub FramedReactAsPlain : Type 0
FramedReactAsPlain = (us : Meanings) (ws vs : Vars) (f : Carry) (env all : Values) (a : Framed) (t : Term) (q : Reaction)
    → Agree us ws vs f env all → Sim us ws vs f a t → React us vs env a q → (r : plain.Reaction) × plain.React ws all t r × AllResolved r.met × Related us ws vs f q r

-- and each of the plain term is one of the framed term
abbrev pub PlainReactAsFramed : Type 0
PlainReactAsFramed = (us : Meanings) (ws vs : Vars) (f : Carry) (env all : Values) (a : Framed) (t : Term) (r : plain.Reaction)
    → Agree us ws vs f env all → Sim us ws vs f a t → plain.React ws all t r → AllResolved r.met → (q : Reaction) × React us vs env a q × Related us ws vs f q r
