-- What is put, one after another, and the part of it where a put failed.
use Rattle.std.proofs.Common.{rules, ◌≡◌, ◌++◌, ◌∙◌, ℕ, List, ap, sym, map, length}
use Rattle.std.specs.Prelude.{codes, decimal}
use Rattle.aif_cells.specs.declared.tree.Tree.{Tree as Boxes}
use Rattle.aif_cells.specs.Tree.{tree, trees}
use Rattle.aif_cells.specs.Text.{trees_text, ref_text, texts, tree_text, two_name}
use Rattle.aif_cells.specs.Put.{alternative_text, arm_text, closes, item_text}
use Rattle.aif_cells.proofs.TextLemmas.{text_of_any, text_of_cases, text_of_items}
use Rattle.aif_cells.proofs.TreeLemmas.{tree_any, tree_cases, tree_cat, tree_ite, tree_sel, tree_two}
use Rattle.outside.proofs.PutsLemmas.{puts_failed, puts_first, puts_same, puts_then}
use Rattle.aif_cells.proofs.PutLemmas.{puts_more, puts_part, the}
use Rattle.aif_cells.proofs.tree_text.+put_tree.Goals as goal

pub put_one-returns-in_err-put_one_name : goal.put_one-returns-in_err-put_one_name
put_one-returns-in_err-put_one_name g t c = puts_first (tree_text (tree c.args.part.now) ++ codes ")") (search rules) c.in_err-put_one_name.ensures

pub put_one-returns-in_err-put_behind : goal.put_one-returns-in_err-put_behind
put_one-returns-in_err-put_behind g t c = puts_then c.in_ok-put_one_name.ensures (puts_failed (search rules) c.in_err-put_behind.ensures)

pub put_left-returns-in_err-put_two_name : goal.put_left-returns-in_err-put_two_name
put_left-returns-in_err-put_two_name g t c = puts_first (tree_text (tree c.args.left.now) ++ codes ",") (search rules) c.in_err-put_two_name.ensures

pub put_left-returns-in_err-put_behind : goal.put_left-returns-in_err-put_behind
put_left-returns-in_err-put_behind g t c = puts_then c.in_ok-put_two_name.ensures (puts_failed (search rules) c.in_err-put_behind.ensures)

pub put_cond-returns-in_err-put : goal.put_cond-returns-in_err-put
put_cond-returns-in_err-put g t c = puts_first (tree_text (tree c.args.cond.now) ++ codes ",") (search rules) c.in_err-put.ensures

pub put_cond-returns-in_err-put_behind : goal.put_cond-returns-in_err-put_behind
put_cond-returns-in_err-put_behind g t c = puts_then c.in_ok-put.ensures (puts_failed (search rules) c.in_err-put_behind.ensures)

pub put_index-returns-in_err-put : goal.put_index-returns-in_err-put
put_index-returns-in_err-put g t c = puts_first (tree_text (tree c.args.index.now)) (search rules) c.in_err-put.ensures

pub put_index-returns-in_err-put_tree : goal.put_index-returns-in_err-put_tree
put_index-returns-in_err-put_tree g t c = puts_then c.in_ok-put.ensures (puts_failed (search rules) c.in_err-put_tree.ensures)

pub put_high-returns-in_err-put : goal.put_high-returns-in_err-put
put_high-returns-in_err-put g t c = puts_first (tree_text (tree c.args.high.now) ++ codes ",") (search rules) c.in_err-put.ensures

pub put_high-returns-in_err-put_behind : goal.put_high-returns-in_err-put_behind
put_high-returns-in_err-put_behind g t c = puts_then c.in_ok-put.ensures (puts_failed (search rules) c.in_err-put_behind.ensures)

pub put_low-returns-in_err-put_tree : goal.put_low-returns-in_err-put_tree
put_low-returns-in_err-put_tree g t c = puts_first (codes "," ++ (decimal c.args.width ++ codes ")")) (search rules) c.in_err-put_tree.ensures

pub put_low-returns-in_err-put_width : goal.put_low-returns-in_err-put_width
put_low-returns-in_err-put_width g t c = puts_then c.in_ok-put_tree.ensures (puts_failed (search rules) c.in_err-put_width.ensures)

pub put_otherwise-returns-in_err-put_tree : goal.put_otherwise-returns-in_err-put_tree
put_otherwise-returns-in_err-put_tree g t c = puts_first (closes c.args.count) (search rules) c.in_err-put_tree.ensures

pub put_otherwise-returns-in_err-put_closes : goal.put_otherwise-returns-in_err-put_closes
put_otherwise-returns-in_err-put_closes g t c = puts_then c.in_ok-put_tree.ensures (puts_failed (search rules) c.in_err-put_closes.ensures)

pub put_with_numbers-returns-in_err-put : goal.put_with_numbers-returns-in_err-put
put_with_numbers-returns-in_err-put g t c = puts_first ((tree_text (tree c.args.part.now)) ++ (codes "," ++ (ref_text c.args.first ++ (codes "," ++ (ref_text c.args.second ++ codes ")"))))) (search rules) c.in_err-put.ensures

pub put_with_numbers-returns-in_err-put_tree : goal.put_with_numbers-returns-in_err-put_tree
put_with_numbers-returns-in_err-put_tree g t c = puts_then c.in_ok-put.ensures (puts_first (codes "," ++ (ref_text c.args.first ++ (codes "," ++ (ref_text c.args.second ++ codes ")")))) (search rules) c.in_err-put_tree.ensures)

pub put_with_numbers-returns-in_err-put_two_numbers : goal.put_with_numbers-returns-in_err-put_two_numbers
put_with_numbers-returns-in_err-put_two_numbers g t c = puts_then c.in_ok-put.ensures (puts_then c.in_ok-put_tree.ensures (puts_failed (search rules) c.in_err-put_two_numbers.ensures))

pub put_slice-returns-in_err-put : goal.put_slice-returns-in_err-put
put_slice-returns-in_err-put g t c = puts_first ((tree_text (tree c.args.part.now)) ++ (codes "," ++ (decimal c.args.first ++ (codes "," ++ (decimal c.args.second ++ codes ")"))))) (search rules) c.in_err-put.ensures

pub put_slice-returns-in_err-put_tree : goal.put_slice-returns-in_err-put_tree
put_slice-returns-in_err-put_tree g t c = puts_then c.in_ok-put.ensures (puts_first (codes "," ++ (decimal c.args.first ++ (codes "," ++ (decimal c.args.second ++ codes ")")))) (search rules) c.in_err-put_tree.ensures)

pub put_slice-returns-in_err-put_two_counts : goal.put_slice-returns-in_err-put_two_counts
put_slice-returns-in_err-put_two_counts g t c = puts_then c.in_ok-put.ensures (puts_then c.in_ok-put_tree.ensures (puts_failed (search rules) c.in_err-put_two_counts.ensures))

pub put_with_width-returns-in_err-put : goal.put_with_width-returns-in_err-put
put_with_width-returns-in_err-put g t c = puts_first ((tree_text (tree c.args.part.now)) ++ (codes "," ++ (decimal c.args.width ++ codes ")"))) (search rules) c.in_err-put.ensures

pub put_with_width-returns-in_err-put_tree : goal.put_with_width-returns-in_err-put_tree
put_with_width-returns-in_err-put_tree g t c = puts_then c.in_ok-put.ensures (puts_first (codes "," ++ (decimal c.args.width ++ codes ")")) (search rules) c.in_err-put_tree.ensures)

pub put_with_width-returns-in_err-put_width : goal.put_with_width-returns-in_err-put_width
put_with_width-returns-in_err-put_width g t c = puts_then c.in_ok-put.ensures (puts_then c.in_ok-put_tree.ensures (puts_failed (search rules) c.in_err-put_width.ensures))

pub put_behind-returns-in_err-put_tree : goal.put_behind-returns-in_err-put_tree
put_behind-returns-in_err-put_tree g t c = puts_first (c.args.bytes.now) (search rules) c.in_err-put_tree.ensures

pub put_behind-returns-in_err-put : goal.put_behind-returns-in_err-put
put_behind-returns-in_err-put g t c = puts_then c.in_ok-put_tree.ensures (puts_failed (search rules) c.in_err-put.ensures)

pub put_tree-returns-in_err-put_left-in-Two : goal.put_tree-returns-in_err-put_left-in-Two
put_tree-returns-in_err-put_left-in-Two g t c = puts_same (ap tree_text (sym (ap tree c.in-Two.is ∙ tree_two c.in-Two.op c.in-Two.left c.in-Two.right))) (puts_first (tree_text (tree c.in-Two.right.value) ++ codes ")") (search rules) (puts_same (ap (λ (left : Boxes). two_name c.in-Two.op ++ (tree_text (tree left) ++ codes ",")) (the (c.deref-in-Two.result.now ≡ c.in-Two.left.value) (search rules))) c.in_err-put_left-in-Two.ensures))

pub put_tree-returns-in_err-put_right-in-Two : goal.put_tree-returns-in_err-put_right-in-Two
put_tree-returns-in_err-put_right-in-Two g t c = puts_same (ap tree_text (sym (ap tree c.in-Two.is ∙ tree_two c.in-Two.op c.in-Two.left c.in-Two.right))) (puts_then (puts_same (ap (λ (left : Boxes). two_name c.in-Two.op ++ (tree_text (tree left) ++ codes ",")) (the (c.deref-in-Two.result.now ≡ c.in-Two.left.value) (search rules))) c.in_ok-put_left-in-Two.ensures) (puts_same (ap (λ (right : Boxes). tree_text (tree right) ++ codes ")") (the (c.deref-in-Two-2.result.now ≡ c.in-Two.right.value) (search rules))) (puts_failed (search rules) c.in_err-put_right-in-Two.ensures)))

pub put_tree-returns-in_err-put_cond-in-Ite : goal.put_tree-returns-in_err-put_cond-in-Ite
put_tree-returns-in_err-put_cond-in-Ite g t c = puts_same (ap tree_text (sym (ap tree c.in-Ite.is ∙ tree_ite c.in-Ite.cond c.in-Ite.yes c.in-Ite.no))) (puts_first ((tree_text (tree c.in-Ite.yes.value) ++ codes ",") ++ (tree_text (tree c.in-Ite.no.value) ++ codes ")")) (search rules) (puts_same (ap (λ (cond : Boxes). codes "ite(" ++ (tree_text (tree cond) ++ codes ",")) (the (c.deref-in-Ite.result.now ≡ c.in-Ite.cond.value) (search rules))) c.in_err-put_cond-in-Ite.ensures))

pub put_tree-returns-in_err-put_yes-in-Ite : goal.put_tree-returns-in_err-put_yes-in-Ite
put_tree-returns-in_err-put_yes-in-Ite g t c = puts_same (ap tree_text (sym (ap tree c.in-Ite.is ∙ tree_ite c.in-Ite.cond c.in-Ite.yes c.in-Ite.no))) (puts_then (puts_same (ap (λ (cond : Boxes). codes "ite(" ++ (tree_text (tree cond) ++ codes ",")) (the (c.deref-in-Ite.result.now ≡ c.in-Ite.cond.value) (search rules))) c.in_ok-put_cond-in-Ite.ensures) (puts_first (tree_text (tree c.in-Ite.no.value) ++ codes ")") (search rules) (puts_same (ap (λ (yes : Boxes). tree_text (tree yes) ++ codes ",") (the (c.deref-in-Ite-2.result.now ≡ c.in-Ite.yes.value) (search rules))) c.in_err-put_yes-in-Ite.ensures)))

pub put_tree-returns-in_err-put_no-in-Ite : goal.put_tree-returns-in_err-put_no-in-Ite
put_tree-returns-in_err-put_no-in-Ite g t c = puts_same (ap tree_text (sym (ap tree c.in-Ite.is ∙ tree_ite c.in-Ite.cond c.in-Ite.yes c.in-Ite.no))) (puts_then (puts_same (ap (λ (cond : Boxes). codes "ite(" ++ (tree_text (tree cond) ++ codes ",")) (the (c.deref-in-Ite.result.now ≡ c.in-Ite.cond.value) (search rules))) c.in_ok-put_cond-in-Ite.ensures) (puts_then (puts_same (ap (λ (yes : Boxes). tree_text (tree yes) ++ codes ",") (the (c.deref-in-Ite-2.result.now ≡ c.in-Ite.yes.value) (search rules))) c.in_ok-put_yes-in-Ite.ensures) (puts_same (ap (λ (no : Boxes). tree_text (tree no) ++ codes ")") (the (c.deref-in-Ite-3.result.now ≡ c.in-Ite.no.value) (search rules))) (puts_failed (search rules) c.in_err-put_no-in-Ite.ensures))))

pub put_tree-returns-in_err-put_index-in-Sel : goal.put_tree-returns-in_err-put_index-in-Sel
put_tree-returns-in_err-put_index-in-Sel g t c = puts_same (ap tree_text (sym (ap tree c.in-Sel.is ∙ tree_sel c.in-Sel.index c.in-Sel.items))) (puts_first (trees_text (trees (map tree c.in-Sel.items.items)) ++ codes ")") (search rules) (puts_same (ap (λ (index : Boxes). codes "sel(" ++ tree_text (tree index)) (the (c.deref-in-Sel.result.now ≡ c.in-Sel.index.value) (search rules))) c.in_err-put_index-in-Sel.ensures))

pub put_tree-returns-in_err-put_list-in-Sel : goal.put_tree-returns-in_err-put_list-in-Sel
put_tree-returns-in_err-put_list-in-Sel g t c = puts_same (ap tree_text (sym (ap tree c.in-Sel.is ∙ tree_sel c.in-Sel.index c.in-Sel.items))) (puts_then (puts_same (ap (λ (index : Boxes). codes "sel(" ++ tree_text (tree index)) (the (c.deref-in-Sel.result.now ≡ c.in-Sel.index.value) (search rules))) c.in_ok-put_index-in-Sel.ensures) (puts_same (ap (λ (items : List Boxes). trees_text (trees (map tree items)) ++ codes ")") (the (c.deref-in-Sel-2.result.now ≡ c.in-Sel.items.items) (search rules))) (puts_failed (search rules) c.in_err-put_list-in-Sel.ensures)))

pub put_tree-returns-in_ok-put_list-in-Sel : goal.put_tree-returns-in_ok-put_list-in-Sel
put_tree-returns-in_ok-put_list-in-Sel g t c = puts_same (ap tree_text (sym (ap tree c.in-Sel.is ∙ tree_sel c.in-Sel.index c.in-Sel.items))) (puts_then (puts_same (ap (λ (index : Boxes). codes "sel(" ++ tree_text (tree index)) (the (c.deref-in-Sel.result.now ≡ c.in-Sel.index.value) (search rules))) c.in_ok-put_index-in-Sel.ensures) (puts_same (ap (λ (items : List Boxes). trees_text (trees (map tree items)) ++ codes ")") (the (c.deref-in-Sel-2.result.now ≡ c.in-Sel.items.items) (search rules))) c.in_ok-put_list-in-Sel.ensures))

pub put_tree-returns-in_err-put_high-in-Cat : goal.put_tree-returns-in_err-put_high-in-Cat
put_tree-returns-in_err-put_high-in-Cat g t c = puts_same (ap tree_text (sym (ap tree c.in-Cat.is ∙ tree_cat c.in-Cat.high c.in-Cat.low c.in-Cat.width))) (puts_first (tree_text (tree c.in-Cat.low.value) ++ (codes "," ++ (decimal c.in-Cat.width ++ codes ")"))) (search rules) (puts_same (ap (λ (high : Boxes). codes "cat(" ++ (tree_text (tree high) ++ codes ",")) (the (c.deref-in-Cat.result.now ≡ c.in-Cat.high.value) (search rules))) c.in_err-put_high-in-Cat.ensures))

pub put_tree-returns-in_err-put_low-in-Cat : goal.put_tree-returns-in_err-put_low-in-Cat
put_tree-returns-in_err-put_low-in-Cat g t c = puts_same (ap tree_text (sym (ap tree c.in-Cat.is ∙ tree_cat c.in-Cat.high c.in-Cat.low c.in-Cat.width))) (puts_then (puts_same (ap (λ (high : Boxes). codes "cat(" ++ (tree_text (tree high) ++ codes ",")) (the (c.deref-in-Cat.result.now ≡ c.in-Cat.high.value) (search rules))) c.in_ok-put_high-in-Cat.ensures) (puts_same (ap (λ (low : Boxes). tree_text (tree low) ++ (codes "," ++ (decimal c.in-Cat.width ++ codes ")"))) (the (c.deref-in-Cat-2.result.now ≡ c.in-Cat.low.value) (search rules))) (puts_failed (search rules) c.in_err-put_low-in-Cat.ensures)))

pub put_tree-returns-in_err-put_arms-in-Cases : goal.put_tree-returns-in_err-put_arms-in-Cases
put_tree-returns-in_err-put_arms-in-Cases g t c = puts_same (text_of_cases c.in-Cases.arms.items (tree c.in-Cases.last.value) ∙ ap tree_text (sym (ap tree c.in-Cases.is ∙ tree_cases c.in-Cases.arms c.in-Cases.last))) (puts_first (tree_text (tree c.in-Cases.last.value) ++ closes (length c.in-Cases.arms.items)) (search rules) (puts_same (ap (λ (arms : List (Boxes × Boxes)). texts arm_text 0 arms) (the (c.deref-in-Cases.result.now ≡ c.in-Cases.arms.items) (search rules))) c.in_err-put_arms-in-Cases.ensures))

pub put_tree-returns-in_err-put_otherwise-in-Cases : goal.put_tree-returns-in_err-put_otherwise-in-Cases
put_tree-returns-in_err-put_otherwise-in-Cases g t c = puts_same (text_of_cases c.in-Cases.arms.items (tree c.in-Cases.last.value) ∙ ap tree_text (sym (ap tree c.in-Cases.is ∙ tree_cases c.in-Cases.arms c.in-Cases.last))) (puts_then (puts_same (ap (λ (arms : List (Boxes × Boxes)). texts arm_text 0 arms) (the (c.deref-in-Cases.result.now ≡ c.in-Cases.arms.items) (search rules))) c.in_ok-put_arms-in-Cases.ensures) (puts_same (ap (λ (count : ℕ). tree_text (tree c.in-Cases.last.value) ++ closes count) (the (c.len.result ≡ (length c.in-Cases.arms.items)) (search rules))) (puts_same (ap (λ (last : Boxes). tree_text (tree last) ++ closes c.len.result) (the (c.deref-in-Cases-2.result.now ≡ c.in-Cases.last.value) (search rules))) (puts_failed (search rules) c.in_err-put_otherwise-in-Cases.ensures))))

pub put_tree-returns-in_ok-put_otherwise-in-Cases : goal.put_tree-returns-in_ok-put_otherwise-in-Cases
put_tree-returns-in_ok-put_otherwise-in-Cases g t c = puts_same (text_of_cases c.in-Cases.arms.items (tree c.in-Cases.last.value) ∙ ap tree_text (sym (ap tree c.in-Cases.is ∙ tree_cases c.in-Cases.arms c.in-Cases.last))) (puts_then (puts_same (ap (λ (arms : List (Boxes × Boxes)). texts arm_text 0 arms) (the (c.deref-in-Cases.result.now ≡ c.in-Cases.arms.items) (search rules))) c.in_ok-put_arms-in-Cases.ensures) (puts_same (ap (λ (count : ℕ). tree_text (tree c.in-Cases.last.value) ++ closes count) (the (c.len.result ≡ (length c.in-Cases.arms.items)) (search rules))) (puts_same (ap (λ (last : Boxes). tree_text (tree last) ++ closes c.len.result) (the (c.deref-in-Cases-2.result.now ≡ c.in-Cases.last.value) (search rules))) c.in_ok-put_otherwise-in-Cases.ensures)))

pub put_tree-returns-in_err-put_firsts-in-Any : goal.put_tree-returns-in_err-put_firsts-in-Any
put_tree-returns-in_err-put_firsts-in-Any g t c = puts_same (text_of_any c.in-Any.items.items (tree c.in-Any.last.value) ∙ ap tree_text (sym (ap tree c.in-Any.is ∙ tree_any c.in-Any.items c.in-Any.last))) (puts_first (tree_text (tree c.in-Any.last.value) ++ closes (length c.in-Any.items.items)) (search rules) (puts_same (ap (λ (items : List Boxes). texts alternative_text 0 items) (the (c.deref-in-Any.result.now ≡ c.in-Any.items.items) (search rules))) c.in_err-put_firsts-in-Any.ensures))

pub put_tree-returns-in_err-put_last-in-Any : goal.put_tree-returns-in_err-put_last-in-Any
put_tree-returns-in_err-put_last-in-Any g t c = puts_same (text_of_any c.in-Any.items.items (tree c.in-Any.last.value) ∙ ap tree_text (sym (ap tree c.in-Any.is ∙ tree_any c.in-Any.items c.in-Any.last))) (puts_then (puts_same (ap (λ (items : List Boxes). texts alternative_text 0 items) (the (c.deref-in-Any.result.now ≡ c.in-Any.items.items) (search rules))) c.in_ok-put_firsts-in-Any.ensures) (puts_same (ap (λ (count : ℕ). tree_text (tree c.in-Any.last.value) ++ closes count) (the (c.len-in-Any.result ≡ (length c.in-Any.items.items)) (search rules))) (puts_same (ap (λ (last : Boxes). tree_text (tree last) ++ closes c.len-in-Any.result) (the (c.deref-in-Any-2.result.now ≡ c.in-Any.last.value) (search rules))) (puts_failed (search rules) c.in_err-put_last-in-Any.ensures))))

pub put_tree-returns-in_ok-put_last-in-Any : goal.put_tree-returns-in_ok-put_last-in-Any
put_tree-returns-in_ok-put_last-in-Any g t c = puts_same (text_of_any c.in-Any.items.items (tree c.in-Any.last.value) ∙ ap tree_text (sym (ap tree c.in-Any.is ∙ tree_any c.in-Any.items c.in-Any.last))) (puts_then (puts_same (ap (λ (items : List Boxes). texts alternative_text 0 items) (the (c.deref-in-Any.result.now ≡ c.in-Any.items.items) (search rules))) c.in_ok-put_firsts-in-Any.ensures) (puts_same (ap (λ (count : ℕ). tree_text (tree c.in-Any.last.value) ++ closes count) (the (c.len-in-Any.result ≡ (length c.in-Any.items.items)) (search rules))) (puts_same (ap (λ (last : Boxes). tree_text (tree last) ++ closes c.len-in-Any.result) (the (c.deref-in-Any-2.result.now ≡ c.in-Any.last.value) (search rules))) c.in_ok-put_last-in-Any.ensures)))

pub put_list-returns-in_err-put_listed : goal.put_list-returns-in_err-put_listed
put_list-returns-in_err-put_listed g t c = puts_first (codes ")") (search rules) c.in_err-put_listed.ensures

pub put_list-returns-in_err-put : goal.put_list-returns-in_err-put
put_list-returns-in_err-put g t c = puts_then c.in_ok-put_listed.ensures (puts_failed (search rules) c.in_err-put.ensures)

pub put_listed-returns : goal.put_listed-returns
put_listed-returns g t c = puts_same (text_of_items c.args.items.now) c.in_ok-put_items.ensures

pub put_listed-returns-in_err-put_items : goal.put_listed-returns-in_err-put_items
put_listed-returns-in_err-put_items g t c = puts_same (text_of_items c.args.items.now) (puts_failed (search rules) c.in_err-put_items.ensures)

pub put_next-returns-in_err-put : goal.put_next-returns-in_err-put
put_next-returns-in_err-put g t c = puts_first (tree_text (tree c.args.t.now)) (search rules) c.in_err-put.ensures

pub put_next-returns-in_err-put_tree : goal.put_next-returns-in_err-put_tree
put_next-returns-in_err-put_tree g t c = puts_then c.in_ok-put.ensures (puts_failed (search rules) c.in_err-put_tree.ensures)

pub put_first-returns-in_err-put : goal.put_first-returns-in_err-put
put_first-returns-in_err-put g t c = puts_first (tree_text (tree c.args.t.now) ++ codes ",") (search rules) c.in_err-put.ensures

pub put_first-returns-in_err-put_behind : goal.put_first-returns-in_err-put_behind
put_first-returns-in_err-put_behind g t c = puts_then c.in_ok-put.ensures (puts_failed (search rules) c.in_err-put_behind.ensures)

pub put_arms-returns-in_err-put_cond : goal.put_arms-returns-in_err-put_cond
put_arms-returns-in_err-put_cond g t c = puts_part arm_text c.args.arms.now c.loop-cond.cond-index c.loop-cond-item.result (search rules) (search rules) c.loop-cond.invariant (puts_same (ap (arm_text 0) c.loop-cond-item.is) (puts_first (tree_text (tree c.loop-cond-item.result.1) ++ codes ",") (search rules) c.in_err-put_cond.ensures))

pub put_arms-returns-in_err-put_yes : goal.put_arms-returns-in_err-put_yes
put_arms-returns-in_err-put_yes g t c = puts_part arm_text c.args.arms.now c.loop-cond.cond-index c.loop-cond-item.result (search rules) (search rules) c.loop-cond.invariant (puts_same (ap (arm_text 0) c.loop-cond-item.is) (puts_then c.in_ok-put_cond.ensures c.in_err-put_yes.ensures))

pub put_arms-loop-cond-preserved : goal.put_arms-loop-cond-preserved
put_arms-loop-cond-preserved g t c = puts_more arm_text c.args.arms.now c.loop-cond.cond-index c.loop-cond-item.result (search rules) c.loop-cond.invariant (puts_same (ap (arm_text 0) c.loop-cond-item.is) (puts_then c.in_ok-put_cond.ensures c.in_ok-put_yes.ensures))

pub put_items-returns-in_err-put_next : goal.put_items-returns-in_err-put_next
put_items-returns-in_err-put_next g t c = puts_part item_text c.args.items.now c.loop-item.item-index c.item-item.result (search rules) (search rules) c.loop-item.invariant (puts_same (ap (item_text 0) c.item-item.is) c.in_err-put_next.ensures)

pub put_items-loop-item-preserved : goal.put_items-loop-item-preserved
put_items-loop-item-preserved g t c = puts_more item_text c.args.items.now c.loop-item.item-index c.item-item.result (search rules) c.loop-item.invariant (puts_same (ap (item_text 0) c.item-item.is) c.in_ok-put_next.ensures)

pub put_firsts-returns-in_err-put_first : goal.put_firsts-returns-in_err-put_first
put_firsts-returns-in_err-put_first g t c = puts_part alternative_text c.args.items.now c.loop-item.item-index c.item-item.result (search rules) (search rules) c.loop-item.invariant (puts_same (ap (alternative_text 0) c.item-item.is) c.in_err-put_first.ensures)

pub put_firsts-loop-item-preserved : goal.put_firsts-loop-item-preserved
put_firsts-loop-item-preserved g t c = puts_more alternative_text c.args.items.now c.loop-item.item-index c.item-item.result (search rules) c.loop-item.invariant (puts_same (ap (alternative_text 0) c.item-item.is) c.in_ok-put_first.ensures)
