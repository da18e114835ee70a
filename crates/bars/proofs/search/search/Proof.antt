-- `bars::search::search` meets its contract: the tables of what hangs for each side, and the search by them.
-- Assumes nothing.
use borrow.Author.Rules.{rules}
use Rattle.bars.proofs.search.search.Statement.{statement}
use Rattle.bars.proofs.search.search.Tie as tie

search-by-requires : tie.Need-search_by-requires
search-by-requires c κs =
    let left = c in
    let right = left in
    let below = right in
    let above = below in
    let p = above.requires in
    (p.0, (p.1.0, (p.1.1, ((above.tally.ensures, below.tally-2.ensures), (right.tally-3.ensures, left.tally-4.ensures)))))

pub search_spec : {M : Type 1} → statement M
search_spec =
    tie.close
    (tie.spec
    (λ c κs. search rules) (λ c κs. search rules) (λ c κs. search rules) (λ c κs. search rules) search-by-requires
    (λ c. search rules))
