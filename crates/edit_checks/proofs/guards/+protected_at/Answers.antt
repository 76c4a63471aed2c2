use Rattle.std.proofs.Common.{◌≡◌, ◌<◌, sym, subst, arith, ◌∙◌, Option, Some, None}
use Rattle.std.specs.Prelude.{IfOk}
use Rattle.doc_model.specs.declared.refusal.Refusal.{Refusal}
use Rattle.node_array.specs.Rows.{rows_of}
use Rattle.row_facts.specs.Around.{IsOpenFrom}
use Rattle.edit_checks.proofs.Open.{open_by, none_open, outer_within, outer_begins, begun_refuses, outer_refuses}
use Rattle.edit_checks.proofs.guards.+protected_at.Goals as goal

pub returns-in-None : goal.returns-in-None
returns-in-None t c = none_open (rows_of c.args.rows.now) c.args.at (open_by c.args.rows.now c.args.at None c.requires.in_range c.requires.no_end c.in-None.ensures)

pub row-requires : goal.row-requires
row-requires t c =
    record { in_range = outer_within (rows_of c.args.rows.now) c.args.at c.in-Some.place (open_by c.args.rows.now c.args.at (Some c.in-Some.place) c.requires.in_range c.requires.no_end c.in-Some.ensures) }

pub protected_at-requires : goal.protected_at-requires
protected_at-requires t c =
    let opened : IsOpenFrom (rows_of c.args.rows.now) c.args.at c.in-Some.place = open_by c.args.rows.now c.args.at (Some c.in-Some.place) c.requires.in_range c.requires.no_end c.in-Some.ensures in
    let before : c.in-Some.place < c.args.at = opened.before in
    (omega arith, (outer_within (rows_of c.args.rows.now) c.args.at c.in-Some.place opened, λ one there. outer_begins (rows_of c.args.rows.now) c.args.at c.in-Some.place one opened there))

pub returns-in-Some-2 : goal.returns-in-Some-2
returns-in-Some-2 t c =
    begun_refuses (rows_of c.args.rows.now) c.args.at c.in-Some.place c.row.result.now c.in-Some-2.why
    (open_by c.args.rows.now c.args.at (Some c.in-Some.place) c.requires.in_range c.requires.no_end c.in-Some.ensures) c.row.ensures
    (sym c.in-Some-2.is ∙ c.in_ok-why-in-Some.ensures)

pub returns-in-None-2 : goal.returns-in-None-2
returns-in-None-2 t c =
    let P : Option Refusal → Type 0 = λ other. IfOk c.protected_at.result (λ why. why ≡ other) in
    subst P
    (outer_refuses (rows_of c.args.rows.now) c.args.at c.in-Some.place c.row.result.now
    (open_by c.args.rows.now c.args.at (Some c.in-Some.place) c.requires.in_range c.requires.no_end c.in-Some.ensures) c.row.ensures
    (sym c.in-None-2.is ∙ c.in_ok-why-in-Some.ensures))
    c.protected_at.ensures
