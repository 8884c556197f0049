use Rattle.std.proofs.Common.{◌+◌, ◌<◌, leb, length, sym, ap, ◌∙◌, arith, rules}
use Rattle.std.specs.Result.{result_err}
use Rattle.segment.specs.Columns.{after}
use Rattle.segment.proofs.Firsts.{within_all}
use Rattle.segment.proofs.rows.check_row.Goals as goal

pub map_err-requires : goal.map_err-requires
map_err-requires c e q κs vs told ranges fits =
    let row = c.args.row.now in
    let asked = c.all_pass.ensures (after 0 leb row) (λ k b h p. search rules) in
    let k : e < 0 + length row = within_all (after 0 leb row) 0 (length row) e (sym asked ∙ ap result_err q) in
    let l : c.args.start + e < c.args.start + length row = omega arith in
    search rules
