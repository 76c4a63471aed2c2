use Rattle.std.proofs.Common.{Option, IfOk, subst}
use Rattle.std.specs.Option.{option_to_list}
use Rattle.load_model.specs.declared.element.Element.{Element}
use Rattle.load_model.specs.Styles.{Names}
use Rattle.sheet_names.specs.Known.{Knows}
use Rattle.head_read.specs.Heads.{HeadersAre}
use Rattle.head_read.proofs.headers.read_head.Goals as goal

pub returns-in-Some : goal.returns-in-Some
returns-in-Some c =
    let P : Option Element → Type 0 = λ found. IfOk c.read_header.result (λ read. (known : Names) → Knows c.args.names.now known → HeadersAre read known (option_to_list found)) in
    subst P c.in-Some.ensures c.read_header.ensures

pub returns-in-None : goal.returns-in-None
returns-in-None c = λ known knows.
    let none = c.none.ensures known in
    let P : Option Element → Type 0 = λ found. HeadersAre c.none.result known (option_to_list found) in
    subst P c.in-None.ensures (record { pars_are = none.pars_are; left_is = none.left_is; too_long_are = none.too_long_are })
