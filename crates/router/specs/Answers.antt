-- What the answers that the code gives say, in the words of `answers`: given with what, or refused by which number.
use Rattle.std.specs.Prelude.{ℕ, ℤ, Result}
use Rattle.lent.specs.Told.{Told}
use Rattle.net.specs.declared.Refusal.{Refusal}
use Rattle.net.specs.Answer.{told_by}
use Rattle.results.specs.declared.Spanned.{Spanned}
use Rattle.router.specs.declared.Terminal.{Terminal}
use Rattle.router.specs.declared.Tree.{Tree}
use Rattle.router.specs.declared.Both.{Both}

-- how many vertices and how many edges
abbrev pub told_graph : Result Spanned Refusal → Told (ℕ × ℕ)
told_graph = told_by (λ graph. (graph.vertices, graph.edges))

-- how many paths, and their total
abbrev pub told_terminal : Result Terminal Refusal → Told (ℕ × ℤ)
told_terminal = told_by (λ tree. (tree.paths, tree.total))

-- how many edges, their total, and their metal
abbrev pub told_tree : Result Tree Refusal → Told (ℕ × (ℤ × ℤ))
told_tree = told_by (λ tree. (tree.edges, (tree.total, tree.metal)))

-- the same with the terminal tree's total before the refined tree's
abbrev pub told_both : Result Both Refusal → Told (ℕ × (ℤ × (ℤ × ℤ)))
told_both = told_by (λ both. (both.tree.edges, (both.terminal, (both.tree.total, both.tree.metal))))

-- how many wires
abbrev pub told_wires : Result ℕ Refusal → Told ℕ
told_wires = told_by (λ n. n)

-- how many numbers
abbrev pub told_distances : Result ℕ Refusal → Told ℕ
told_distances = told_by (λ n. n)

-- the lower bound
abbrev pub told_bound : Result ℕ Refusal → Told ℕ
told_bound = told_by (λ n. n)
