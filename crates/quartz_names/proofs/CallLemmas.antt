-- Calls in the branches of a block.
use Rattle.std.proofs.Common.{◌≡◌, ◌||◌, Bool, true, List, ◌∷◌, map, Vec, Global, sym, ap, ◌∙◌}
use Rattle.quartz_tree.specs.declared.declare.Decl.{Decl}
use Rattle.quartz_tree.specs.declared.surface.Surface.{Surface}
use Rattle.quartz_tree.specs.declared.surface.Surface.TheVariants.{Block}
use Rattle.quartz_tree.specs.Surfaces.{Branch, branch, branches_of, written}
use Rattle.quartz_tree.proofs.SurfaceLemmas.{written_block}
use Rattle.quartz_names.specs.Resolving.{branch_has_call, has_call, have_call}

abbrev pub Stmts : Type 0
Stmts = Vec Surface Global

abbrev plain : Stmts → Branch
plain b = branch (map written b.items)

abbrev pub any_call : List Stmts → Bool
any_call bs = have_call (branches_of (map plain bs))

-- a block has a call where its branches have one
pub block_call : (s : Surface) (ds : Vec Decl Global) (bs : Vec Stmts Global) (items left : List Stmts) → s ≡ Block ds bs → items ≡ bs.items → any_call items ≡ any_call left → has_call (written s) ≡ any_call left
block_call s ds bs items left e f h = ap (λ x. has_call (written x)) e ∙ ap has_call (written_block ds bs) ∙ ap any_call (sym f) ∙ h

pub first_calls : (left rest : List Stmts) (b : Stmts) → left ≡ b ∷ rest → branch_has_call (plain b) ≡ true → any_call left ≡ true
first_calls left rest b e h = ap any_call e ∙ ap (λ t. t || any_call rest) h
