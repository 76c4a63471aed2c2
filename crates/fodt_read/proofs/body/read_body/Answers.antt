use Rattle.std.proofs.Common.{◌≡◌, ℕ, ◌+◌, ◌<◌, ◌≤◌, ◌∷◌, [], ◌++◌, List, length, sym, ap, ◌∙◌, subst, arith, eqb-true, eq-eqb}
use Rattle.std.proofs.lemmas.Bool.{false≢true}
use Rattle.std.proofs.lemmas.Bool.Decides.{not_from_Decides}
use Rattle.doc_model.specs.Plain.{plain_blocks}
use Rattle.fodt_read.proofs.Faults.{handed_on}
use Rattle.fodt_read.proofs.Texts.{Seen, seen_none, seen_count, seen_more, seen_end, seen_all, room_for_next, some_blocks}
use Rattle.fodt_read.proofs.body.read_body.Goals as goal

pub paragraphs-init : goal.paragraphs-init
paragraphs-init c = seen_none _ _ c.new-body.ensures.items

-- the next paragraph is read, or there is no memory
pub returns-in_err-rest-clause-read : goal.returns-in_err-rest-clause-read
returns-in_err-rest-clause-read c = λ all fits e.
    let more = not_from_Decides c.is_tail.result c.is_tail.ensures c.paragraphs-test.true in
    let room = room_for_next _ _ _ _ c.paragraphs.invariant all fits e more in
    handed_on _ _ _ c.from_residual.ensures.1 (c.in_err-rest.ensures.read room.next.text room.next.after room.next.plain room.next.spelled)

pub returns-then-len-eq-MOST_PARAGRAPHS-clause-read :
    goal.returns-then-len-eq-MOST_PARAGRAPHS-clause-read
returns-then-len-eq-MOST_PARAGRAPHS-clause-read c = λ all fits e.
    let more = not_from_Decides c.is_tail.result c.is_tail.ensures c.paragraphs-test.true in
    let room = room_for_next _ _ _ _ c.paragraphs.invariant all fits e more in
    absurd (omega (arith, room.paragraphs, c.len.ensures, c.paragraphs.body.ok.0, c.if-len-eq-MOST_PARAGRAPHS.true))

pub returns-then-len-characters-clause-read : goal.returns-then-len-characters-clause-read
returns-then-len-characters-clause-read c = λ all fits e.
    let more = not_from_Decides c.is_tail.result c.is_tail.ensures c.paragraphs-test.true in
    let room = room_for_next _ _ _ _ c.paragraphs.invariant all fits e more in
    let is = c.in_ok-rest.ensures.read room.next.text room.next.after room.next.plain room.next.spelled in
    absurd (omega (arith, room.characters_fit, c.len-in-paragraphs.ensures, c.read_paragraph.new.text.ok.0, ap (length {A = ℕ}) is.1, c.if-len-characters.true))

pub push_paragraph-requires : goal.push_paragraph-requires
push_paragraph-requires c = omega (arith, seen_count _ _ _ _ c.paragraphs.invariant, c.paragraphs.invariant.few, c.len.ensures, c.paragraphs.body.ok.0, c.if-len-eq-MOST_PARAGRAPHS.false)

pub paragraphs-preserved : goal.paragraphs-preserved
paragraphs-preserved c =
    let more = not_from_Decides c.is_tail.result c.is_tail.ensures c.paragraphs-test.true in
    let few : length c.paragraphs.body.items < 65536 =
    omega (arith, seen_count _ _ _ _ c.paragraphs.invariant, c.paragraphs.invariant.few, c.len.ensures, c.paragraphs.body.ok.0, c.if-len-eq-MOST_PARAGRAPHS.false) in
    let text = c.read_paragraph.new.text.items in
    let fits : c.paragraphs.characters + length text ≤ 4194304 =
    omega (arith, c.paragraphs.invariant.most, c.len-in-paragraphs.ensures, c.read_paragraph.new.text.ok.0, c.if-len-characters.false) in
    let count : length text ≡ c.len-characters.result = sym (c.len-characters.ensures ∙ c.read_paragraph.new.text.ok.0) in
    let are = c.in_ok-push_paragraph.ensures.ok c.paragraphs.invariant.texts c.paragraphs.invariant.blocks_are
    ∙ ap (λ (xs : List ℕ). plain_blocks 1 (c.paragraphs.invariant.texts ++ xs ∷ [])) c.deref.ensures.value in
    subst (λ (n : ℕ). Seen c.args.bytes.now c.push_paragraph.new.blocks.items (c.paragraphs.characters + n) c.in_ok-rest.rest.now) count
    (seen_more _ text _ _ _ _ _ c.paragraphs.invariant c.in_ok-rest.ensures.plain few fits are more c.in_ok-rest.ensures.read)

pub returns-then-is_empty-clause-read : goal.returns-then-is_empty-clause-read
returns-then-is_empty-clause-read c = λ all fits e.
    let are = seen_end _ _ _ _ c.paragraphs.invariant (c.is_tail.ensures.0 c.paragraphs-test.false) all fits e in
    absurd (some_blocks _ all fits are (sym c.paragraphs.body.ok.0 ∙ eqb-true _ 0 (sym c.is_empty.ensures ∙ c.if-is_empty.true)))

pub returns-clause-plain : goal.returns-clause-plain
returns-clause-plain c = (
  c.paragraphs.invariant.texts,
  seen_all _ _ _ _ c.paragraphs.invariant (λ none. false≢true (sym c.if-is_empty.false ∙ c.is_empty.ensures ∙ eq-eqb _ 0 (c.paragraphs.body.ok.0 ∙ ap length none))),
  c.paragraphs.invariant.blocks_are,
)

pub returns-clause-read : goal.returns-clause-read
returns-clause-read c = λ all fits e. seen_end _ _ _ _ c.paragraphs.invariant (c.is_tail.ensures.0 c.paragraphs-test.false) all fits e
