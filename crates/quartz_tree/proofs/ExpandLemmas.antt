-- What the replacing of derived forms makes of a block.
use Rattle.std.proofs.Common.{◌≡◌, List, [], ◌∷◌, map, Vec, Global, refl, sym, ap, ap₂, ◌∙◌}
use Rattle.std.proofs.lemmas.Simd.{map-map}
use Rattle.quartz_tree.specs.declared.declare.Decl.{Decl}
use Rattle.quartz_tree.specs.declared.surface.Surface.{Surface}
use Rattle.quartz_tree.specs.declared.surface.Surface.TheVariants.{Block}
use Rattle.quartz_tree.specs.Surfaces.{Written, written, block, then, beside, branch, branches_of}
use Rattle.quartz_tree.specs.Expand.{expanded, expanded_branch, expanded_branches}
use Rattle.quartz_tree.proofs.SurfaceLemmas.{written_block}

abbrev Stmts : Type 0
Stmts = Vec Surface Global

-- the plain trees of a branch, and those with the derived forms replaced
abbrev before : Stmts → List Written
before b = map written b.items

abbrev after : Stmts → List Written
after b = map (λ s. expanded (written s)) b.items

one_branch : (xs : List Surface) → expanded_branch (branch (map written xs)) ≡ branch (map (λ s. expanded (written s)) xs)
one_branch [] = refl
one_branch (x ∷ xs) = ap (then (expanded (written x))) (one_branch xs)

all_branches : (bs : List Stmts) → branches_of (map branch (map after bs)) ≡ expanded_branches (branches_of (map (λ b. branch (before b)) bs))
all_branches [] = refl
all_branches (b ∷ bs) = ap₂ beside (sym (one_branch b.items)) (all_branches bs)

pub expanded_block : (ds es : Vec Decl Global) (bs cs : Vec Stmts Global) → es.items ≡ ds.items → map before cs.items ≡ map after bs.items → written (Block es cs) ≡ expanded (written (Block ds bs))
expanded_block ds es bs cs same h =
    let inner = sym (map-map branch before cs.items) ∙ ap (map branch) h in
    written_block es cs ∙ ap₂ block same (ap branches_of inner ∙ all_branches bs.items) ∙ sym (ap expanded (written_block ds bs))
