use Rattle.std.proofs.Common.{◌≡◌, false, true, sym}
use Rattle.std.proofs.lemmas.Bool.{false≢true}
use Rattle.name_index.proofs.Found.{on_ok}
use Rattle.text_state.proofs.Followed.{known_name, new_name}
use Rattle.text_state.proofs.names.add_name.Goals as goal

pub returns-in-Some : goal.returns-in-Some
returns-in-Some c = known_name c.args.index.now c.args.kind c.args.name.now c.args.par c.in-Some.field-0 (sym c.in-Some.ensures.there)

pub returns-in-None : goal.returns-in-None
returns-in-None c =
    on_ok c.add.result c.add.ensures.added
    (new_name c.args.index.now c.add.new.self c.args.kind c.args.name.now c.args.par (λ e. let never : false ≡ true = c.if-is_none.ensures.1 e in absurd (false≢true never)) (sym c.in-None.ensures.there))
