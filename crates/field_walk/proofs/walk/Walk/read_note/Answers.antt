use Rattle.std.proofs.Common.{◌≡◌, ◌+◌, ℕ, List, ap, ◌∙◌, refl}
use Rattle.field_model.specs.Fields.{cited}
use Rattle.field_walk.specs.Lists.{list_of}
use Rattle.field_walk.specs.declared.walk.Walk.{Walk}
use Rattle.field_walk.proofs.ReadLemmas.{note_read}
use Rattle.field_walk.proofs.ForgetLemmas.{notes_same, unplaced, failed}
use Rattle.field_walk.proofs.walk.Walk.read_note.Goals as goal

pub returns-in_err-keep_place : goal.returns-in_err-keep_place
returns-in_err-keep_place c = λ all h. failed _ _ c.from_residual-in_err-keep_place.result c.from_residual-in_err-keep_place.ensures.1 (rw c.keep_place.ensures.rest (notes_same c.args.self.now c.keep_place.new.self all c.args.self.now.notes h c.in_err-keep_place.ensures.same (λ name. refl)))

pub returns-in-Ok : goal.returns-in-Ok
returns-in-Ok c = λ all h.
    let notes : (name : List ℕ) → list_of c.keep_place.new.self.notes name ≡ list_of c.args.self.now.notes name = λ name. ap (λ (walk : Walk). list_of walk.notes name) c.keep_place.ensures.rest in
    let e : c.in_ok-number.number ≡ cited c.args.class all + 1 = c.in_ok-number.ensures ∙ ap (λ (n : ℕ). n + 1) (c.cited.ensures all h) in
    rw (c.in_ok-next.ensures, c.set_cited.ensures, c.keep_place.ensures.rest) (note_read c.args.self.now all c.push_named.new.self c.keep_place.new.self c.args.id.now c.args.class c.in_ok-number.number h (λ asked. rw (← c.target.ensures all h, ← notes asked) (c.in-Ok.ensures.ok asked)) c.in_ok-keep_place.ensures.places e)

pub returns-in-Err : goal.returns-in-Err
returns-in-Err c = λ all h.
    let in_note : c.keep_place.new.self.in_note ≡ c.args.self.now.in_note = ap (λ (walk : Walk). walk.in_note) c.keep_place.ensures.rest in
    let notes : (name : List ℕ) → list_of c.keep_place.new.self.notes name ≡ list_of c.args.self.now.notes name = λ name. ap (λ (walk : Walk). list_of walk.notes name) c.keep_place.ensures.rest in
    let places = unplaced c.keep_place.new.self.in_note c.args.self.now.in_note c.args.self.now.count _ _ _ in_note c.in_ok-keep_place.ensures.places c.forget_place.ensures.places in
    rw (c.forget_place.ensures.rest, c.keep_place.ensures.rest) (notes_same c.args.self.now c.forget_place.new.self all c.push_named.new.self h places (λ name. c.in-Err.ensures.err name ∙ notes name))
