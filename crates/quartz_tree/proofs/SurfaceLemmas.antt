-- The plain tree of each form of statement.
use Rattle.std.proofs.Common.{◌≡◌, Bool, map, None, Some, Vec, Box, Global, sym, ap, ◌∙◌}
use Rattle.std.proofs.lemmas.Simd.{map-map}
use Rattle.quartz_tree.specs.declared.expr.Expr.{Expr}
use Rattle.quartz_tree.specs.declared.declare.Decl.{Decl}
use Rattle.quartz_tree.specs.declared.place.Place.{Place}
use Rattle.quartz_tree.specs.declared.surface.Target.{Target}
use Rattle.quartz_tree.specs.declared.surface.Arg.{Arg}
use Rattle.quartz_tree.specs.declared.surface.Surface.{Surface, Surface-F, fold-roll-Surface}
use Rattle.quartz_tree.specs.declared.surface.Surface.TheVariants.{Empty, Pause, Halt, Await, Emit, Write, Block, If, Loop, Always, While, Do, Guard, Call, rolls-Empty, rolls-Pause, rolls-Halt, rolls-Await, rolls-Emit, rolls-Write, rolls-Block, rolls-If, rolls-Loop, rolls-Always, rolls-While, rolls-Do, rolls-Guard, rolls-Call}
use Rattle.quartz_tree.specs.Tree.{tree}
use Rattle.quartz_tree.specs.Surfaces as plain
use Rattle.quartz_tree.specs.Surfaces.{Word, Written, written, written_step, goal_of, branch, branches_of}

pub written_empty : written Empty ≡ plain.empty
written_empty = ap written (sym rolls-Empty) ∙ fold-roll-Surface Written written_step Surface-F.Empty

pub written_pause : written Pause ≡ plain.pause
written_pause = ap written (sym rolls-Pause) ∙ fold-roll-Surface Written written_step Surface-F.Pause

pub written_halt : (p : Place) → written (Halt p) ≡ plain.halt p
written_halt p = ap written (sym (rolls-Halt p)) ∙ fold-roll-Surface Written written_step (Surface-F.Halt p)

pub written_await : (immediate : Bool) (c : Expr Word) (p : Place) → written (Await immediate c p) ≡ plain.await immediate (tree c) p
written_await i c p = ap written (sym (rolls-Await i c p)) ∙ fold-roll-Surface Written written_step (Surface-F.Await i c p)

pub written_emit : (delayed : Bool) (t : Target) (p : Place) → written (Emit delayed t p) ≡ plain.emit delayed (goal_of t) p
written_emit d t p = ap written (sym (rolls-Emit d t p)) ∙ fold-roll-Surface Written written_step (Surface-F.Emit d t p)

pub written_write : (delayed : Bool) (t : Target) (v : Expr Word) (p : Place) → written (Write delayed t v p) ≡ plain.write delayed (goal_of t) (tree v) p
written_write d t v p = ap written (sym (rolls-Write d t v p)) ∙ fold-roll-Surface Written written_step (Surface-F.Write d t v p)

pub written_block : (ds : Vec Decl Global) (bs : Vec (Vec Surface Global) Global) → written (Block ds bs) ≡ plain.block ds.items (branches_of (map (λ b. branch (map written b.items)) bs.items))
written_block ds bs =
    ap written (sym (rolls-Block ds bs)) ∙ fold-roll-Surface Written written_step (Surface-F.Block ds bs) ∙ ap (λ l. plain.block ds.items (branches_of l)) (map-map (λ b. branch b.items) _ bs.items)

pub written_if_none : (c : Expr Word) (a : Box Surface Global) → written (If c a None) ≡ plain.choose_one (tree c) (written a.value)
written_if_none c a = ap written (sym (rolls-If c a None)) ∙ fold-roll-Surface Written written_step (Surface-F.If c a None)

pub written_if_some : (c : Expr Word) (a b : Box Surface Global) → written (If c a (Some b)) ≡ plain.choose (tree c) (written a.value) (written b.value)
written_if_some c a b = ap written (sym (rolls-If c a (Some b))) ∙ fold-roll-Surface Written written_step (Surface-F.If c a (Some b))

pub written_loop : (s : Box Surface Global) (p : Place) → written (Loop s p) ≡ plain.loop (written s.value) p
written_loop s p = ap written (sym (rolls-Loop s p)) ∙ fold-roll-Surface Written written_step (Surface-F.Loop s p)

pub written_always : (s : Box Surface Global) (p : Place) → written (Always s p) ≡ plain.always (written s.value) p
written_always s p = ap written (sym (rolls-Always s p)) ∙ fold-roll-Surface Written written_step (Surface-F.Always s p)

pub written_while : (c : Expr Word) (s : Box Surface Global) (p : Place) → written (While c s p) ≡ plain.while (tree c) (written s.value) p
written_while c s p = ap written (sym (rolls-While c s p)) ∙ fold-roll-Surface Written written_step (Surface-F.While c s p)

pub written_do : (s : Box Surface Global) (c : Expr Word) (p : Place) → written (Do s c p) ≡ plain.do_while (written s.value) (tree c) p
written_do s c p = ap written (sym (rolls-Do s c p)) ∙ fold-roll-Surface Written written_step (Surface-F.Do s c p)

pub written_guard : (abort weak immediate : Bool) (s : Box Surface Global) (c : Expr Word) → written (Guard abort weak immediate s c) ≡ plain.guard abort weak immediate (written s.value) (tree c)
written_guard a w i s c = ap written (sym (rolls-Guard a w i s c)) ∙ fold-roll-Surface Written written_step (Surface-F.Guard a w i s c)

pub written_call : (m : Word) (args : Vec Arg Global) (p : Place) → written (Call m args p) ≡ plain.call m args.items p
written_call m args p = ap written (sym (rolls-Call m args p)) ∙ fold-roll-Surface Written written_step (Surface-F.Call m args p)
