-- The order of places and of faults, and the least of a list.
use Rattle.std.specs.Prelude.{ℕ, Bool, ◌&&◌, ◌||◌, ◌==◌, nat_lt, List, [], ◌∷◌, Option, Some, None, if◌then◌else◌}
use Rattle.quartz_tree.specs.declared.place.Place.{Place}
use Rattle.quartz_tree.specs.declared.fault.Kind.{Kind}
use Rattle.quartz_tree.specs.declared.fault.Kind.TheVariants.{Range, Index, Divisor, Conflict}
use Rattle.quartz_tree.specs.declared.fault.Fault.{Fault}

-- by line, then by column
abbrev pub is_before : Place → Place → Bool
is_before p q = nat_lt p.line q.line || ((p.line == q.line) && nat_lt p.col q.col)

abbrev pub rank : Kind → ℕ
rank Range = 0
rank Index = 1
rank Divisor = 2
rank Conflict = 3

-- by place, then by kind
abbrev pub is_sooner : Fault → Fault → Bool
is_sooner f g = is_before f.place g.place || ((f.place.line == g.place.line) && ((f.place.col == g.place.col) && nat_lt (rank f.kind) (rank g.kind)))

-- the lesser of two, and the first where neither is
abbrev pub lesser_place : Option Place → Option Place → Option Place
lesser_place None q = q
lesser_place (Some p) None = Some p
lesser_place (Some p) (Some q) = if is_before q p then Some q else Some p

abbrev pub least_place : List Place → Option Place
least_place [] = None
least_place (p ∷ ps) = lesser_place (Some p) (least_place ps)

abbrev pub lesser_fault : Option Fault → Option Fault → Option Fault
lesser_fault None g = g
lesser_fault (Some f) None = Some f
lesser_fault (Some f) (Some g) = if is_sooner g f then Some g else Some f

abbrev pub least_fault : List Fault → Option Fault
least_fault [] = None
least_fault (f ∷ fs) = lesser_fault (Some f) (least_fault fs)
