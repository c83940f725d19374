-- The text of cells, registers, actions and monitors, line by line.
use Rattle.std.specs.Prelude.{ℕ, zero, suc, ◌+◌, Bool, true, false, List, [], ◌∷◌, ◌++◌, take, drop, Option, Some, None, if◌then◌else◌, codes, decimal}
use Rattle.std.specs.Fmt.{signed_decimal}
use Rattle.quartz_tree.specs.declared.declare.Base.{Base}
use Rattle.quartz_tree.specs.declared.declare.Base.TheVariants as base
use Rattle.quartz_tree.specs.declared.declare.Storage.{Storage}
use Rattle.quartz_tree.specs.declared.declare.Storage.TheVariants.{Mem, Event}
use Rattle.quartz_tree.specs.declared.declare.Var.{Var}
use Rattle.outside.specs.Report.{kind_text}
use Rattle.aif_cells.specs.declared.reference.Ref.{Ref}
use Rattle.aif_cells.specs.declared.reference.Ref.TheVariants as ref
use Rattle.aif_cells.specs.declared.tree.TreeOne.{TreeOne}
use Rattle.aif_cells.specs.declared.tree.TreeOne.TheVariants as one_op
use Rattle.aif_cells.specs.declared.tree.TreeTwo.{TreeTwo}
use Rattle.aif_cells.specs.declared.tree.TreeTwo.TheVariants as two_op
use Rattle.aif_cells.specs.declared.cells.Cell.{Cell}
use Rattle.aif_cells.specs.declared.cells.Register.{Register}
use Rattle.aif_cells.specs.declared.cells.Action.{Action}
use Rattle.aif_cells.specs.declared.cells.Monitor.{Monitor}
use Rattle.aif_cells.specs.declared.aif.Aif.{Aif}
use Rattle.aif_cells.specs.Tree.{Tree, value, one, two, ite, sel, fit, bnot, cat, bits, Trees, none, item, tree}
use Rattle.aif_cells.specs.Aif.{elements_of, input_elements, output_elements, is_input, is_output, is_local}

abbrev pub ref_text : Ref → List ℕ
ref_text (ref.Lit z) = signed_decimal z
ref_text (ref.Input i) = codes "i" ++ decimal i
ref_text (ref.Reg r) = codes "r" ++ decimal r
ref_text (ref.Cell c) = codes "c" ++ decimal c

abbrev pub one_name : TreeOne → List ℕ
one_name one_op.Not = codes "not("
one_name one_op.Neg = codes "neg("

abbrev pub two_name : TreeTwo → List ℕ
two_name two_op.And = codes "and("
two_name two_op.Or = codes "or("
two_name two_op.Xor = codes "xor("
two_name two_op.Eq = codes "eq("
two_name two_op.Ne = codes "ne("
two_name two_op.Lt = codes "lt("
two_name two_op.Le = codes "le("
two_name two_op.Gt = codes "gt("
two_name two_op.Ge = codes "ge("
two_name two_op.Add = codes "add("
two_name two_op.Sub = codes "sub("
two_name two_op.Mul = codes "mul("
two_name two_op.Div = codes "div("
two_name two_op.Rem = codes "rem("
two_name two_op.Band = codes "band("
two_name two_op.Bor = codes "bor("
two_name two_op.Bxor = codes "bxor("

-- a reference, a literal, or a name with its parts in parentheses; each part of a list behind a comma
abbrev mutual
  pub tree_text : Tree → List ℕ
  tree_text (value r) = ref_text r
  tree_text (one op a) = one_name op ++ (tree_text a ++ codes ")")
  tree_text (two op a b) = (two_name op ++ (tree_text a ++ codes ",")) ++ (tree_text b ++ codes ")")
  tree_text (ite c a b) = (codes "ite(" ++ (tree_text c ++ codes ",")) ++ ((tree_text a ++ codes ",") ++ (tree_text b ++ codes ")"))
  tree_text (sel i ts) = (codes "sel(" ++ tree_text i) ++ (trees_text ts ++ codes ")")
  tree_text (fit a low high) = codes "fit(" ++ (tree_text a ++ (codes "," ++ (signed_decimal low ++ (codes "," ++ (signed_decimal high ++ codes ")")))))
  tree_text (bnot a n) = codes "bnot(" ++ (tree_text a ++ (codes "," ++ (decimal n ++ codes ")")))
  tree_text (cat a b n) = (codes "cat(" ++ (tree_text a ++ codes ",")) ++ (tree_text b ++ (codes "," ++ (decimal n ++ codes ")")))
  tree_text (bits a high low) = codes "bits(" ++ (tree_text a ++ (codes "," ++ (decimal high ++ (codes "," ++ (decimal low ++ codes ")")))))

  pub trees_text : Trees → List ℕ
  trees_text none = []
  trees_text (item t ts) = (codes "," ++ tree_text t) ++ trees_text ts

-- what stands for a tree in a list, for a case before the last tree, and for an alternative before it
abbrev pub next_text : ℕ → Tree → List ℕ
next_text _ t = codes "," ++ tree_text t

abbrev pub case_text : ℕ → Tree × Tree → List ℕ
case_text _ a = (codes "ite(" ++ (tree_text a.0 ++ codes ",")) ++ (tree_text a.1 ++ codes ",")

abbrev pub first_text : ℕ → Tree → List ℕ
first_text _ t = codes "or(" ++ (tree_text t ++ codes ",")

abbrev pub base_text : Base → List ℕ
base_text base.Bool = codes "bool"
base_text (base.Nat n) = codes "nat{" ++ (decimal n ++ codes "}")
base_text (base.Int n) = codes "int{" ++ (decimal n ++ codes "}")
base_text (base.Bv n) = codes "bv{" ++ (decimal n ++ codes "}")

abbrev pub length_text : Option ℕ → List ℕ
length_text None = []
length_text (Some n) = codes "[" ++ (decimal n ++ codes "]")

abbrev pub storage_text : Storage → List ℕ
storage_text Mem = codes "mem "
storage_text Event = codes "event "

-- the texts of a list's items one after another, with their numbers from n on
abbrev pub texts : {A : Type 0} → (ℕ → A → List ℕ) → (n : ℕ) → List A → List ℕ
texts f n [] = []
texts f n (x ∷ xs) = f n x ++ texts f (n + 1) xs

-- numbers behind blanks and a letter
abbrev pub number_text : (letter : List ℕ) → ℕ → ℕ → List ℕ
number_text letter _ n = letter ++ decimal n

-- so many numbers from n on
abbrev pub counted_from : (n count : ℕ) → List ℕ
counted_from n zero = []
counted_from n (suc count) = n ∷ counted_from (n + 1) count

-- a word, and a variable's name
abbrev pub named_text : List ℕ → Var → List ℕ
named_text word v = word ++ (v.decl.name ++ codes " ")

-- a type and a variable's number
abbrev pub typed_text : ℕ → Var → List ℕ
typed_text n v = length_text v.decl.ty.len ++ (base_text v.decl.ty.base ++ (codes " v" ++ decimal n))

abbrev pub input_line : (n first : ℕ) → Var → List ℕ
input_line n first v = named_text (codes "input ") v ++ (typed_text n v ++ (texts (number_text (codes " i")) 0 (counted_from first (elements_of v)) ++ codes "\n"))

abbrev pub input_text : (n first : ℕ) → Var → List ℕ
input_text n first v = if is_input v.decl.flow then input_line n first v else []

-- the inputs among the variables from number n on, whose elements are numbered from the first on
abbrev pub input_lines : (n first : ℕ) → List Var → List ℕ
input_lines n first [] = []
input_lines n first (v ∷ vs) = input_text n first v ++ input_lines (n + 1) (first + input_elements v) vs

-- an output with its value cells
abbrev pub output_line : ℕ → List ℕ → Var → List ℕ
output_line n cells v = named_text (codes "output ") v ++ (storage_text v.decl.storage ++ (typed_text n v ++ (texts (number_text (codes " c")) 0 cells ++ codes "\n")))

abbrev pub output_text : ℕ → List ℕ → Var → List ℕ
output_text n cells v = if is_output v.decl.flow then output_line n (take (elements_of v) cells) v else []

-- the outputs among the variables from number n on, which have these value cells one after another
abbrev pub output_lines : ℕ → (cells : List ℕ) → List Var → List ℕ
output_lines n cells [] = []
output_lines n cells (v ∷ vs) = output_text n cells v ++ output_lines (n + 1) (drop (output_elements v) cells) vs

abbrev pub local_line : ℕ → Var → List ℕ
local_line n v = if is_local v.decl.flow then named_text (codes "local ") v ++ (storage_text v.decl.storage ++ (typed_text n v ++ codes "\n")) else []

abbrev pub register_line : ℕ → Register → List ℕ
register_line n r = codes "register r" ++ (decimal n ++ (codes " = " ++ (signed_decimal r.initial ++ (codes " -> " ++ (ref_text r.next ++ codes "\n")))))

abbrev pub cell_line : ℕ → Cell → List ℕ
cell_line n c = (codes "cell c" ++ (decimal n ++ codes " = ")) ++ (tree_text (tree c.tree) ++ codes "\n")

abbrev pub index_text : Option Ref → List ℕ
index_text None = []
index_text (Some r) = codes "[" ++ (ref_text r ++ codes "]")

-- a variable's copy, and the element that is written
abbrev pub copy_text : Action → List ℕ
copy_text a = (codes "v" ++ (decimal a.var ++ codes ".")) ++ (decimal a.copy ++ index_text a.index)

abbrev pub target_text : Bool → Action → List ℕ
target_text true a = codes "next(" ++ (copy_text a ++ codes ")")
target_text false a = copy_text a

abbrev pub action_line : ℕ → Action → List ℕ
action_line _ a = (codes "action " ++ (ref_text a.guard ++ codes " => ")) ++ (target_text a.delayed a ++ (codes " = " ++ (ref_text a.value ++ codes "\n")))

abbrev pub monitor_line : ℕ → Monitor → List ℕ
monitor_line _ m = codes "monitor c" ++ (decimal m.cell ++ (codes " " ++ (decimal m.place.line ++ (codes ":" ++ (decimal m.place.col ++ (codes " " ++ (kind_text m.kind ++ codes "\n")))))))

-- the lines of inputs, outputs and locals
abbrev pub vars_text : Aif → List ℕ
vars_text a = input_lines 0 0 a.vars ++ (output_lines 0 a.outputs a.vars ++ texts local_line 0 a.vars)

-- the lines of registers, cells, actions and monitors
abbrev pub lines_text : Aif → List ℕ
lines_text a = texts register_line 0 a.registers ++ (texts cell_line 0 a.cells ++ (texts action_line 0 a.actions ++ texts monitor_line 0 a.monitors))

-- the whole text
abbrev pub aif_text : Aif → List ℕ
aif_text a = (codes "module " ++ (a.name ++ codes "\n")) ++ (vars_text a ++ lines_text a)
