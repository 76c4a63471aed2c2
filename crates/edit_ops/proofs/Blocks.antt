-- The blocks of a plain document, by place.
use Rattle.std.proofs.Common.{◌≡◌, ℕ, ◌+◌, ◌-◌, ◌≤◌, ◌<◌, List, [], ◌∷◌, length, take, drop, get_or, refl, ap, sym, ◌∙◌, subst, arith, Option, Some, None, zero, suc, IsSome, set}
use Rattle.std.specs.Prelude.{map, sum_by, slice_get}
use Rattle.std.specs.List.{splice}
use Rattle.std.specs.Option.{option_map}
use Rattle.std.proofs.lemmas.List.{take_more, take_all, take-append-drop, length-map}
use Rattle.std.proofs.lemmas.List.Sums.{sum_by-append, sum_by-cons}
use Rattle.doc_model.specs.declared.paragraph.Item.{Item}
use Rattle.doc_model.specs.declared.paragraph.Par.{Par, out-Par, roll-Par}
use Rattle.doc_model.specs.declared.paragraph.ParId.{ParId}
use Rattle.doc_model.specs.declared.block.Block.{Block, out-Block, roll-Block}
use Rattle.doc_model.specs.declared.block.Block.TheOpen.{Block-F}
use Rattle.doc_model.specs.declared.block.Block.TheViews.{out-roll-Block}
use Rattle.doc_model.specs.declared.block.Block.TheVariants.{rolls-Par, rolls-Section}
use Rattle.doc_model.specs.declared.block.Block.TheVariants as block
use Rattle.doc_model.specs.declared.block.Section.{Section}
use Rattle.doc_model.specs.declared.document.Document.{Document}
use Rattle.doc_model.specs.declared.refusal.Limit.TheVariants as limit
use Rattle.edit_model.specs.Edit.{live_paragraph, item_count, with_items}
use Rattle.doc_model.specs.Limits.{measure}
use Rattle.doc_model.specs.Plain.{IsPlain, plain_document, plain_blocks, plain_paragraph, plain_item}
use Rattle.plain_doc.specs.PlainParts.{text_numbered, with_changed}
use Rattle.plain_doc.proofs.Passed.{length-plain_blocks}
use Rattle.plain_doc.proofs.Edited.{repar, live_paragraph-plain}
use Rattle.plain_doc.proofs.Parts.{items_of-plain_paragraph}
use Rattle.edit_ops.proofs.Texts.{cut, cut-plain, text-within, text_numbered-at, text_numbered-below, slice_get-blocks, slice_get-block, blocks-changed}
use Rattle.edit_ops.proofs.Refusals.{live_count, item_count-plain, with_items-cut}
use Rattle.edit_ops.proofs.Changes.{live_items, measure-plain, within_limits}

pub body-plain : (texts : List (List ℕ)) → (plain_document texts).body ≡ plain_blocks 1 texts
unfolding plain_document
body-plain texts = refl

pub body_of : (doc : Document) (plain : IsPlain doc) → doc.body ≡ plain_blocks 1 plain.0
body_of doc plain = ap (λ (d : Document). d.body) plain.1.alone ∙ body-plain plain.0

-- a plain document with other blocks is another one
with_body : (doc : Document) (texts texts' : List (List ℕ)) (blocks : List Block) → doc ≡ plain_document texts → blocks ≡ plain_blocks 1 texts' → record doc { body = blocks } ≡ plain_document texts'
unfolding plain_document
with_body doc texts texts' blocks e same = ap (λ (d : Document). record d { body = blocks }) e ∙ ap (λ (bs : List Block). record (plain_document texts) { body = bs }) same

-- a block that is a paragraph
pub same_par : (live par : Par) → block.Par live ≡ roll-Block (Block-F.Par par) → live ≡ par
same_par live par e =
    let layers = sym (out-roll-Block (Block-F.Par live)) ∙ ap out-Block (rolls-Par live ∙ e) ∙ out-roll-Block (Block-F.Par par) in
    cc

pub no_section : (section : Section) (par : Par) → block.Section section ≡ roll-Block (Block-F.Par par) → ⊥
no_section section par e =
    let layers = sym (out-roll-Block (Block-F.Section section)) ∙ ap out-Block (rolls-Section section ∙ e) ∙ out-roll-Block (Block-F.Par par) in
    cc

pub items_in : (live : Par) (number : ℕ) (text : List ℕ) → block.Par live ≡ roll-Block (Block-F.Par (plain_paragraph number text)) → length (out-Par live).items ≡ length text
items_in live number text e =
    ap (λ (par : Par). length (out-Par par).items) (same_par live (plain_paragraph number text) e)
    ∙ ap (length {A = Item}) (items_of-plain_paragraph number text) ∙ length-map text plain_item

pub changed-par : (live : Par) (items : List Item) (number from to : ℕ) (old new : List ℕ) → block.Par live ≡ roll-Block (Block-F.Par (plain_paragraph number old))
    → items ≡ splice (out-Par live).items from to (map plain_item new)
    → block.Par (roll-Par (record (out-Par live) { items = items })) ≡ roll-Block (Block-F.Par (plain_paragraph number (splice old from to new)))
changed-par live items number from to old new e changed =
    let plain : live ≡ plain_paragraph number old = same_par live (plain_paragraph number old) e in
    let same : items ≡ map plain_item (splice old from to new) =
    changed
    ∙ ap (λ (par : Par). splice (out-Par par).items from to (map plain_item new)) plain
    ∙ ap (λ (its : List Item). splice its from to (map plain_item new)) (items_of-plain_paragraph number old)
    ∙ cut-plain from to new old in
    sym (rolls-Par (roll-Par (record (out-Par live) { items = items })))
    ∙ ap (λ (par : Par). roll-Block (Block-F.Par (roll-Par (record (out-Par par) { items = items })))) plain
    ∙ ap (λ (its : List Item). roll-Block (Block-F.Par (roll-Par (record (out-Par (plain_paragraph number old)) { items = its })))) same
    ∙ ap (λ (par : Par). roll-Block (Block-F.Par par)) (repar number old (splice old from to new))

-- the paragraph of a number, and the block at its place
at_place : (doc : Document) (plain : IsPlain doc) (par : ParId) → 1 ≤ par.0 → live_items doc par ≡ option_map (length {A = ℕ}) (slice_get plain.0 (par.0 - 1))
at_place doc plain par given =
    ap (λ (d : Document). live_items d par) plain.1.alone ∙ live_count plain.0 par
    ∙ ap (option_map (length {A = ℕ})) (text_numbered-at par.0 1 (par.0 - 1) plain.0 (omega (arith, given)))

no_block : (texts : List (List ℕ)) (place : ℕ) (found : Option (List ℕ)) → slice_get texts place ≡ found → None ≡ slice_get (plain_blocks 1 texts) place → found ≡ None
no_block texts place None is e = refl
no_block texts place (Some text) is e = absurd (some_none (slice_get-block (1 + place) 1 place texts text refl is) e) where
  some_none : {b : Block} {found : Option Block} → found ≡ Some b → None ≡ found → ⊥
  some_none e f = cc

pub record HasBlock (texts : List (List ℕ)) (place : ℕ) (here : Block) : Type 0 where
  pub text : List ℕ
  pub found : slice_get texts place ≡ Some text
  pub same : here ≡ roll-Block (Block-F.Par (plain_paragraph (1 + place) text))

of_found : (texts : List (List ℕ)) (place : ℕ) (here : Block) (found : Option (List ℕ)) → slice_get texts place ≡ found → Some here ≡ slice_get (plain_blocks 1 texts) place → HasBlock texts place here
of_found texts place here None is e = absurd (none_some (slice_get-blocks 1 place texts is) e) where
  none_some : {b : Block} {found : Option Block} → found ≡ None → Some b ≡ found → ⊥
  none_some e f = cc
of_found texts place here (Some text) is e = record { text = text; found = is; same = same e (slice_get-block (1 + place) 1 place texts text refl is) } where
  same : {b c : Block} {found : Option Block} → Some b ≡ found → found ≡ Some c → b ≡ c
  same e f = cc

pub has_block : (doc : Document) (plain : IsPlain doc) (place : ℕ) (here : Block) → Some here ≡ slice_get doc.body place → HasBlock plain.0 place here
has_block doc plain place here e = of_found plain.0 place here (slice_get plain.0 place) refl (e ∙ ap (λ (blocks : List Block). slice_get blocks place) (body_of doc plain))

pub live-zero : (doc : Document) → IsPlain doc → (par : ParId) → par.0 ≡ 0 → None ≡ live_items doc par
live-zero doc plain par nought =
    sym (ap (λ (d : Document). live_items d par) plain.1.alone ∙ live_count plain.0 par ∙ ap (option_map (length {A = ℕ})) (text_numbered-below par.0 1 plain.0 (omega (arith, nought))))

pub live-none : (doc : Document) → IsPlain doc → (par : ParId) → 1 ≤ par.0 → None ≡ slice_get doc.body (par.0 - 1) → None ≡ live_items doc par
live-none doc plain par given e =
    let none = no_block plain.0 (par.0 - 1) (slice_get plain.0 (par.0 - 1)) refl (e ∙ ap (λ (blocks : List Block). slice_get blocks (par.0 - 1)) (body_of doc plain)) in
    sym (at_place doc plain par given ∙ ap (option_map (length {A = ℕ})) none)

pub live-some : (doc : Document) → IsPlain doc → (par : ParId) (here : Block) (count : ℕ) → 1 ≤ par.0 → Some here ≡ slice_get doc.body (par.0 - 1)
    → ((number : ℕ) (text : List ℕ) → here ≡ roll-Block (Block-F.Par (plain_paragraph number text)) → count ≡ length text) → Some count ≡ live_items doc par
live-some doc plain par here count given e by =
    let b = has_block doc plain (par.0 - 1) here e in
    ap (λ (n : ℕ). Some n) (by (1 + (par.0 - 1)) b.text b.same) ∙ sym (at_place doc plain par given ∙ ap (option_map (length {A = ℕ})) b.found)

pub slice_get-get_or : (blocks : List Block) (place : ℕ) (d : Block) → place < length blocks → slice_get blocks place ≡ Some (get_or blocks place d)
slice_get-get_or [] place d within = absurd (omega arith)
slice_get-get_or (first ∷ blocks) zero d within = refl
slice_get-get_or (first ∷ blocks) (suc place) d within = slice_get-get_or blocks place d (omega arith)

-- the sum of the item counts, block after block
get_or-blocks : (here place : ℕ) (texts : List (List ℕ)) (d : Block) → place < length texts → get_or (plain_blocks here texts) place d ≡ roll-Block (Block-F.Par (plain_paragraph (here + place) (get_or texts place [])))
get_or-blocks here place [] d within = absurd (omega arith)
get_or-blocks here zero (text ∷ texts) d within = let same : here ≡ here + 0 = omega arith in ap (λ (n : ℕ). roll-Block (Block-F.Par (plain_paragraph n text))) same
get_or-blocks here (suc place) (text ∷ texts) d within =
    let same : here + 1 + place ≡ here + suc place = omega arith in
    get_or-blocks (here + 1) place texts d (omega arith) ∙ ap (λ (n : ℕ). roll-Block (Block-F.Par (plain_paragraph n (get_or texts place [])))) same

pub sum_more : (texts : List (List ℕ)) (blocks : List Block) (place : ℕ) (here : Block) (count : ℕ) → blocks ≡ plain_blocks 1 texts → place < length blocks → here ≡ get_or blocks place here
    → ((number : ℕ) (text : List ℕ) → here ≡ roll-Block (Block-F.Par (plain_paragraph number text)) → count ≡ length text)
    → sum_by (length {A = ℕ}) (take (place + 1) texts) ≡ sum_by (length {A = ℕ}) (take place texts) + count
sum_more texts blocks place here count e within is by =
    let inside : place < length texts = omega (arith, within, ap (length {A = Block}) e, length-plain_blocks 1 texts) in
    let same : here ≡ roll-Block (Block-F.Par (plain_paragraph (1 + place) (get_or texts place []))) =
    is ∙ ap (λ (bs : List Block). get_or bs place here) e ∙ get_or-blocks 1 place texts here inside in
    let size = by (1 + place) (get_or texts place []) same in
    ap (sum_by (length {A = ℕ})) (take_more texts place [] inside)
    ∙ omega (arith, size, sum_by-append (length {A = ℕ}) (take place texts) (get_or texts place [] ∷ []), sum_by-cons (length {A = ℕ}) (get_or texts place []) [])

pub sum_front : (n : ℕ) (texts : List (List ℕ)) → sum_by (length {A = ℕ}) (take n texts) ≤ sum_by (length {A = ℕ}) texts
sum_front n texts = omega (arith, ap (sum_by (length {A = ℕ})) (take-append-drop n texts), sum_by-append (length {A = ℕ}) (take n texts) (drop n texts))

pub sum_whole : (doc : Document) (plain : IsPlain doc) (n total : ℕ) → length doc.body ≤ n → total ≡ sum_by (length {A = ℕ}) (take n plain.0) → total ≡ measure doc limit.Items
sum_whole doc plain n total all e =
    e ∙ ap (sum_by (length {A = ℕ})) (take_all n plain.0 (omega (arith, all, ap (length {A = Block}) (body_of doc plain), length-plain_blocks 1 plain.0))) ∙ sym (measure-plain doc plain)

-- the text of a live paragraph
pub record IsLive (doc : Document) (texts : List (List ℕ)) (par : ParId) : Type 0 where
  pub text : List ℕ
  pub found : text_numbered par.0 1 texts ≡ Some text
  pub given : 1 ≤ par.0
  pub within : par.0 - 1 < length doc.body
  pub count : item_count doc par ≡ length text
  pub total : length text ≤ measure doc limit.Items

live_of : (number : ℕ) (found : Option (List ℕ)) → IsSome (option_map (plain_paragraph number) found) → (text : List ℕ) × (found ≡ Some text)
live_of number (Some text) some = (text, refl)
live_of number None some = absurd (none_there some) where
  none_there : IsSome {T = Par} None → ⊥
  none_there e = cc

pub is_live : (doc : Document) (plain : IsPlain doc) (par : ParId) → IsSome (live_paragraph doc par) → IsLive doc plain.0 par
is_live doc plain par some =
    let live : IsSome (live_paragraph (plain_document plain.0) par) = subst (λ (d : Document). IsSome (live_paragraph d par)) plain.1.alone some in
    let found = live_of par.0 (text_numbered par.0 1 plain.0) (subst (λ (o : Option Par). IsSome o) (live_paragraph-plain plain.0 par) live) in
    let inside = text-within par.0 plain.0 found.0 found.1 (within_limits doc plain) in
    record {
      text = found.0;
      found = found.1;
      given = inside.0;
      within = omega (arith, inside.0, inside.1, ap (length {A = Block}) (body_of doc plain), length-plain_blocks 1 plain.0);
      count = ap (λ (d : Document). item_count d par) plain.1.alone ∙ item_count-plain plain.0 par found.0 found.1;
      total = omega (arith, inside.3, measure-plain doc plain);
    }

same_some : {b c : Block} {found : Option Block} → found ≡ Some b → found ≡ Some c → b ≡ c
same_some e f = cc

-- the block of a live paragraph
pub live_block : (doc : Document) (plain : IsPlain doc) (par : ParId) (live : IsLive doc plain.0 par) (here : Block) → slice_get doc.body (par.0 - 1) ≡ Some here → here ≡ roll-Block (Block-F.Par (plain_paragraph par.0 live.text))
live_block doc plain par live here e =
    same_some (sym (ap (λ (blocks : List Block). slice_get blocks (par.0 - 1)) (body_of doc plain)) ∙ e)
    (slice_get-block par.0 1 (par.0 - 1) plain.0 live.text (omega (arith, live.given)) (sym (text_numbered-at par.0 1 (par.0 - 1) plain.0 (omega (arith, live.given))) ∙ live.found))

-- the document with another block in the place of a live paragraph's
pub changed_body : (doc : Document) (plain : IsPlain doc) (par : ParId) (live : IsLive doc plain.0 par) (from to : ℕ) (new : List ℕ) (blocks : List Block) (there : Block)
    → blocks ≡ set doc.body (par.0 - 1) there → there ≡ roll-Block (Block-F.Par (plain_paragraph par.0 (splice live.text from to new)))
    → record doc { body = blocks } ≡ with_items par.0 (λ items. splice items from to (map plain_item new)) doc
changed_body doc plain par live from to new blocks there put is =
    let same : blocks ≡ plain_blocks 1 (with_changed par.0 (cut from to new) 1 plain.0) =
    put
    ∙ ap (λ (b : Block). set doc.body (par.0 - 1) b) is
    ∙ ap (λ (bs : List Block). set bs (par.0 - 1) (roll-Block (Block-F.Par (plain_paragraph par.0 (cut from to new live.text))))) (body_of doc plain)
    ∙ blocks-changed par.0 (cut from to new) plain.0 live.text live.found in
    with_body doc plain.0 (with_changed par.0 (cut from to new) 1 plain.0) blocks plain.1.alone same
    ∙ sym (ap (with_items par.0 (λ items. splice items from to (map plain_item new))) plain.1.alone ∙ with_items-cut plain.0 par from to new)
