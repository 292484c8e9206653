use Rattle.std.proofs.Common.{◌≡◌, ◌+◌, ◌∷◌, List, drop, sym, ◌∙◌, ap, subst, arith}
use Rattle.std.proofs.lemmas.Grind.{common_steps}
use Rattle.std.proofs.lemmas.List.{drop_more}
use Rattle.std.specs.List.{AllByRecursion}
use Rattle.cf_tree.specs.declared.row.Row.{Row}
use Rattle.cf_entry.proofs.Counts.{few_rows, none_left}
use Rattle.cf_entry.specs.Entry.{HasNamed, IsRow}
use Rattle.cf_entry.proofs.put.row.put_rows.Goals as goal

pub loop-row-preserved : goal.loop-row-preserved
loop-row-preserved c =
    let rest = drop (c.loop-row.row-index + 1) c.args.rows.now in
    let split : drop c.loop-row.row-index c.args.rows.now ≡ c.row-item.result ∷ rest = drop_more c.args.rows.now c.loop-row.row-index c.row-item.result c.loop-row-test.true ∙ ap (λ (r : Row). r ∷ rest) (sym c.row-item.is) in
    record {
      small = grind (arith, common_steps);
      room = grind (arith, common_steps);
      so_far = grind (arith, common_steps);
      so_long = grind (arith, common_steps);
      capacity = grind (arith, common_steps);
      named = λ all. (subst (λ (rows : List Row). AllByRecursion HasNamed rows) split (c.loop-row.invariant.named all)).1;
      fits = λ all others.
          let row : IsRow c.row-item.result = c.put_row.ensures.fits (subst (λ (rows : List Row). AllByRecursion HasNamed rows) split (c.loop-row.invariant.named all)).0 in
          c.loop-row.invariant.fits all (subst (λ (rows : List Row). AllByRecursion IsRow rows) (sym split) (row, others));
    }

pub returns-clause-fits : goal.returns-clause-fits
returns-clause-fits c named =
    (few_rows c.args.rows.now c.requires.small, c.loop-row.invariant.fits named (none_left IsRow c.args.rows.now c.loop-row.row-index c.loop-row-test.false))
