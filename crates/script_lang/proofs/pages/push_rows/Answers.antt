use Rattle.std.proofs.Common.{◌++◌, take}
use Rattle.std.specs.Prelude.{codes}
use Rattle.std.specs.List.{flat_map}
use Rattle.std.specs.Str.{encode_utf8_all}
use Rattle.script_lang.proofs.PrintLemmas.{front_kept}
use Rattle.script_lang.proofs.pages.push_rows.Goals as goal

pub returns-in_err-push_row-clause-front : goal.returns-in_err-push_row-clause-front
returns-in_err-push_row-clause-front c =
    front_kept c.args.out.now.items (flat_map (λ row. encode_utf8_all row ++ codes "\n") (take c.loop-row.row-index c.args.rows.now)) c.loop-row.out.items c.push_row.new.out.items c.loop-row.invariant
    c.push_row.ensures.front
