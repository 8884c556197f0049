use Rattle.std.proofs.Common.{◌+◌, ◌-◌, ◌≡◌, arith, length, set, take, drop}
use Rattle.std.proofs.lemmas.List.{length-drop, length-set, length-take-le}
use Rattle.facet_collector.proofs.Shifts.{shifted}
use Rattle.facet_collector.proofs.counts.shift_in.Goals as goal

pub returns-clause-front : goal.returns-clause-front
returns-clause-front c =
    let a = c.args.at in
    let n = c.args.len in
    let xs = set c.args.entries.now n c.args.entry in
    let h = c.requires.at in
    let l = c.requires.len in
    let turned = take (n + 1 - a) (drop a xs) in
    let w : length turned ≡ n + 1 - a =
    length-take-le (n + 1 - a) (drop a xs) (omega (arith, length-drop a xs, length-set c.args.entries.now n c.args.entry)) in
    shifted c.args.entries.now c.rotate_right.new.self a (length turned - 1) (n + 1 - a) n c.args.entry (omega arith) l (omega arith) c.rotate_right.ensures.after
