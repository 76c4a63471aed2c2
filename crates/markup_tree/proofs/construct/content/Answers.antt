-- A reference, a bracket, or another character.
use Rattle.std.proofs.Common.{ℕ, List, [], ◌∷◌, chars, ap, sym, ◌∙◌, subst}
use Rattle.std.proofs.lemmas.Result.{err_from_is_err_and}
use Rattle.markup_parts.specs.Outcomes.{Found, Stopped, Reads}
use Rattle.markup_parts.proofs.ReadsLemmas.{reads_on, reads_same}
use Rattle.markup_tree.specs.Pieces.{IsBracket, Holds}
use Rattle.markup_tree.proofs.ConstructLemmas.{plain_cut, inside_reference, inside_bracket, inside_other, other_literal, behind_on, said_outcome, no_less}
use Rattle.markup_tree.proofs.construct.content.Goals as goal

pub returns-in_default-clause-read : goal.returns-in_default-clause-read
returns-in_default-clause-read c = plain_cut c.in_default.ensures.first

pub returns-in_err-c-clause-read : goal.returns-in_err-c-clause-read
returns-in_err-c-clause-read c =
    let p = err_from_is_err_and c.from_residual.result c.from_residual.ensures.1 in
    let first = c.in-Some.ensures.first ∙ ap (λ (x : ℕ). x ∷ chars c.in-Some.rest.now) c.if-c-eq38.true in
    rw (p.1, p.2) (reads_same (inside_reference first) (Stopped c.in_err-c.field-0.0) (reads_on (behind_on (0x26 ∷ []) first) (Stopped c.in_err-c.field-0.0) c.in_err-c.ensures.read))

pub returns-then-c-eq38-clause-read : goal.returns-then-c-eq38-clause-read
returns-then-c-eq38-clause-read c =
    let first = c.in-Some.ensures.first ∙ ap (λ (x : ℕ). x ∷ chars c.in-Some.rest.now) c.if-c-eq38.true in
    let found = Found c.in_ok-c.c (chars c.in_ok-c.rest.now) in
    reads_same (inside_reference first) (Found (Holds (c.in_ok-c.c ∷ [])) (chars c.in_ok-c.rest.now)) (reads_on (behind_on (0x26 ∷ []) first) found c.in_ok-c.ensures.read)

pub returns-then-c-eq93-clause-read : goal.returns-then-c-eq93-clause-read
returns-then-c-eq93-clause-read c =
    let first = c.in-Some.ensures.first ∙ ap (λ (x : ℕ). x ∷ chars c.in-Some.rest.now) c.if-c-eq93.true in
    let answer = said_outcome c.bracket.result in
    reads_same (inside_bracket first) answer (subst (λ (t : List ℕ). Reads IsBracket t answer) (sym first) c.bracket.ensures.read)

pub returns-in_err-c-2-clause-read : goal.returns-in_err-c-2-clause-read
returns-in_err-c-2-clause-read c =
    let p = err_from_is_err_and c.from_residual-in_err-c-2.result c.from_residual-in_err-c-2.ensures.1 in
    rw (p.1, p.2) (reads_same (inside_other c.in-Some.ensures.first c.if-c-eq38.false c.if-c-eq93.false) (Stopped c.in_err-c-2.field-0.0)
    (reads_on (other_literal c.in-Some.ensures.first (no_less c.requires c.in-Some.ensures.first) c.if-c-eq38.false c.if-c-eq93.false) (Stopped c.in_err-c-2.field-0.0) c.in_err-c-2.ensures.read))

pub returns-clause-read : goal.returns-clause-read
returns-clause-read c =
    let found = Found c.in_ok-c-2.c (chars c.in_ok-c-2.rest.now) in
    reads_same (inside_other c.in-Some.ensures.first c.if-c-eq38.false c.if-c-eq93.false) (Found (Holds (c.in_ok-c-2.c ∷ [])) (chars c.in_ok-c-2.rest.now))
    (reads_on (other_literal c.in-Some.ensures.first (no_less c.requires c.in-Some.ensures.first) c.if-c-eq38.false c.if-c-eq93.false) found c.in_ok-c-2.ensures.read)
