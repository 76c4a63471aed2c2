-- Plain documents, and lists whose items are numbered from 1, by place.
use Rattle.std.proofs.Common.{◌≡◌, ◌≢◌, ℕ, ◌+◌, ◌≤◌, ◌<◌, Bool, false, cond, List, [], ◌∷◌, length, drop, get_or, refl, ap, sym, ◌∙◌, subst, arith, zero, suc, Option, Some, None, inl, inr}
use Rattle.std.specs.Prelude.{map, slice_get, find, ◌==◌}
use Rattle.std.specs.List.{AllByRecursion as Each}
use Rattle.std.specs.Option.{option_map}
use Rattle.std.proofs.lemmas.Bool.{eq-eqb}
use Rattle.std.proofs.lemmas.Bool.Decides.{eqb_tells}
use Rattle.std.proofs.lemmas.List.{length-map}
use Rattle.std.proofs.lemmas.Option.{slice_get-map, slice_get_read, same_Some}
use Rattle.doc_model.specs.declared.block.Block.{Block, out-Block, roll-Block}
use Rattle.doc_model.specs.declared.block.Block.TheViews.{out-roll-Block}
use Rattle.doc_model.specs.declared.block.Block.TheVariants.{rolls-Par, rolls-Section}
use Rattle.doc_model.specs.declared.block.Block.TheVariants as block
use Rattle.doc_model.specs.declared.block.Section.{Section}
use Rattle.doc_model.specs.declared.block.Block.TheOpen.{Block-F}
use Rattle.doc_model.specs.declared.document.Document.{Document}
use Rattle.doc_model.specs.declared.paragraph.Item.{Item}
use Rattle.doc_model.specs.declared.paragraph.Par.{Par}
use Rattle.doc_model.specs.Parts.{items_of}
use Rattle.doc_model.specs.Plain.{IsPlain, plain_document, plain_blocks, plain_paragraph, plain_item}
use Rattle.doc_model.specs.Reading.{paragraphs, number_of, upwards}
use Rattle.doc_model.specs.Valid.{IsValid}
use Rattle.plain_doc.specs.PlainParts.{ArePlainTexts, plain_pars}
use Rattle.plain_doc.proofs.Parts.{paragraphs-plain, items_of-plain_paragraph}
use Rattle.plain_doc.proofs.Passed.{length-plain_blocks}
use Rattle.plain_doc.proofs.Valid.{ArePlainTexts-valid, numbers-plain}
use Rattle.line_model.specs.Keys.{key_of}
use Rattle.round_model.specs.Rounds.{SetPar, set_in}
use Rattle.round_model.specs.Idle.{set_at}
use Rattle.round_model.specs.Stops.{paragraph_count}

neq-eqb : (a b : ℕ) → (a ≡ b → ⊥) → (a == b) ≡ false
neq-eqb a b apart = elim (eqb_tells a b) [ inl e ↦ absurd (apart e.1) | inr e ↦ e.0 ]

-- an item by its number is an item by its place
pub found-at : {X : Type 0} (f : X → ℕ) (number first place count : ℕ) (xs : List X) → map f xs ≡ upwards first count → number ≡ first + place
    → find (λ x. f x == number) xs ≡ slice_get xs place
found-at f number first place count [] numbers e = refl
found-at f number first place zero (x ∷ xs) numbers e = absurd (cc)
found-at {X = X} f number first zero (suc count) (x ∷ xs) numbers e =
    let here : f x ≡ first = cc numbers in
    ap (λ (b : Bool). cond b (Some x) (find (λ (y : X). f y == number) xs)) (eq-eqb (f x) number (omega arith))
found-at {X = X} f number first (suc place) (suc count) (x ∷ xs) numbers e =
    let here : f x ≡ first = cc numbers in
    let behind : map f xs ≡ upwards (first + 1) count = cc numbers in
    ap (λ (b : Bool). cond b (Some x) (find (λ (y : X). f y == number) xs)) (neq-eqb (f x) number (λ same. absurd (omega (arith, here, same))))
    ∙ found-at f number (first + 1) place count xs behind (omega arith)

pub found-below : {X : Type 0} (f : X → ℕ) (number first count : ℕ) (xs : List X) → map f xs ≡ upwards first count → number < first → find (λ x. f x == number) xs ≡ None
found-below f number first count [] numbers below = refl
found-below f number first zero (x ∷ xs) numbers below = absurd (cc)
found-below {X = X} f number first (suc count) (x ∷ xs) numbers below =
    let here : f x ≡ first = cc numbers in
    let behind : map f xs ≡ upwards (first + 1) count = cc numbers in
    ap (λ (b : Bool). cond b (Some x) (find (λ (y : X). f y == number) xs)) (neq-eqb (f x) number (λ same. absurd (omega (arith, here, same))))
    ∙ found-below f number (first + 1) count xs behind (omega arith)

pub map-of-map : {X Y Z : Type 0} (g : Y → Z) (f : X → Y) (xs : List X) → map g (map f xs) ≡ map (λ x. g (f x)) xs
map-of-map g f [] = refl
map-of-map {Z = Z} g f (x ∷ xs) = ap (λ (zs : List Z). g (f x) ∷ zs) (map-of-map g f xs)

-- an item is there at each place below the length
pub there : {X : Type 0} (xs : List X) (place : ℕ) → place < length xs → (x : X) × (slice_get xs place ≡ Some x)
there [] place within = absurd (omega arith)
there (x ∷ xs) zero within = (x, refl)
there (x ∷ xs) (suc place) within = there xs place (omega arith)

-- the paragraphs of a plain document
pub pars_of : (doc : Document) (plain : IsPlain doc) → paragraphs doc ≡ plain_pars 1 plain.0
pars_of doc plain = ap (λ (d : Document). paragraphs d) plain.1.alone ∙ paragraphs-plain plain.0

length-pars : (first : ℕ) (texts : List (List ℕ)) → length (plain_pars first texts) ≡ length texts
length-pars first [] = refl
length-pars first (text ∷ texts) = ap suc (length-pars (first + 1) texts)

pub count_of : (doc : Document) (plain : IsPlain doc) → paragraph_count doc ≡ length plain.0
count_of doc plain = ap (length {A = Par}) (pars_of doc plain) ∙ length-pars 1 plain.0

body-plain : (texts : List (List ℕ)) → (plain_document texts).body ≡ plain_blocks 1 texts
unfolding plain_document
body-plain texts = refl

pub blocks_of : (doc : Document) (plain : IsPlain doc) → doc.body ≡ plain_blocks 1 plain.0
blocks_of doc plain = ap (λ (d : Document). d.body) plain.1.alone ∙ body-plain plain.0

pub body_count : (doc : Document) → IsPlain doc → length doc.body ≡ paragraph_count doc
body_count doc plain = ap (length {A = Block}) (blocks_of doc plain) ∙ length-plain_blocks 1 plain.0 ∙ sym (count_of doc plain)

limits_of : (doc : Document) (plain : IsPlain doc) → ArePlainTexts plain.0
limits_of doc plain = ArePlainTexts-valid plain.0 (subst IsValid plain.1.alone plain.1.valid)

some_texts : (texts : List (List ℕ)) → texts ≢ [] → 1 ≤ length texts
some_texts [] some = absurd (some refl)
some_texts (text ∷ texts) some = omega arith

-- a plain document has from 1 to 65536 paragraphs
pub some_paragraphs : (doc : Document) → IsPlain doc → 1 ≤ paragraph_count doc
some_paragraphs doc plain = omega (arith, count_of doc plain, some_texts plain.0 (limits_of doc plain).some)

pub few_paragraphs : (doc : Document) → IsPlain doc → paragraph_count doc ≤ 65536
few_paragraphs doc plain = omega (arith, count_of doc plain, (limits_of doc plain).paragraphs)

-- the numbers of its paragraphs
pub numbers_of : (doc : Document) → IsPlain doc → map number_of (paragraphs doc) ≡ upwards 1 (paragraph_count doc)
numbers_of doc plain =
    ap (λ (pars : List Par). map number_of pars) (pars_of doc plain) ∙ numbers-plain 1 plain.0 ∙ ap (λ (n : ℕ). upwards 1 n) (sym (count_of doc plain))

-- a paragraph as a block
abbrev pub par_block : Par → Block
par_block par = roll-Block (Block-F.Par par)

blocks-pars : (first : ℕ) (texts : List (List ℕ)) → plain_blocks first texts ≡ map par_block (plain_pars first texts)
blocks-pars first [] = refl
blocks-pars first (text ∷ texts) = ap (λ (blocks : List Block). par_block (plain_paragraph first text) ∷ blocks) (blocks-pars (first + 1) texts)

pub block_at : (doc : Document) (plain : IsPlain doc) (place : ℕ) → slice_get doc.body place ≡ option_map par_block (slice_get (paragraphs doc) place)
block_at doc plain place =
    ap (λ (blocks : List Block). slice_get blocks place) (blocks_of doc plain ∙ blocks-pars 1 plain.0)
    ∙ slice_get-map par_block (plain_pars 1 plain.0) place
    ∙ ap (λ (pars : List Par). option_map par_block (slice_get pars place)) (sym (pars_of doc plain))

few_items_in : (first place : ℕ) (texts : List (List ℕ)) (par : Par) → Each (λ text. length text ≤ 32768) texts → slice_get (plain_pars first texts) place ≡ Some par → length (items_of par) ≤ 32768
few_items_in first place [] par each e = absurd (cc)
few_items_in first zero (text ∷ texts) par each e =
    let same : plain_paragraph first text ≡ par = cc e in
    omega (arith, each.0, ap (λ (p : Par). length (items_of p)) same, ap (length {A = Item}) (items_of-plain_paragraph first text), length-map text plain_item)
few_items_in first (suc place) (text ∷ texts) par each e = few_items_in (first + 1) place texts par each.1 e

-- a paragraph of a plain document has at most 32768 items
pub few_items : (doc : Document) (plain : IsPlain doc) (place : ℕ) (par : Par) → slice_get (paragraphs doc) place ≡ Some par → length (items_of par) ≤ 32768
few_items doc plain place par e =
    few_items_in 1 place plain.0 par (limits_of doc plain).items_of_paragraph (ap (λ (pars : List Par). slice_get pars place) (sym (pars_of doc plain)) ∙ e)

-- a paragraph as it is set
abbrev pub set_of : Par → SetPar
set_of par = record { par = number_of par; key = key_of par }

pub set_numbers : (doc : Document) (round : ℕ) → IsPlain doc → map (λ set. set.par) (set_in doc round) ≡ upwards 1 (paragraph_count doc)
set_numbers doc round plain = map-of-map (λ (set : SetPar). set.par) set_of (paragraphs doc) ∙ numbers_of doc plain

abbrev first_of : List SetPar → Option SetPar
first_of [] = None
first_of (set ∷ more) = Some set

first_drop : (place : ℕ) (sets : List SetPar) → first_of (drop place sets) ≡ slice_get sets place
first_drop zero [] = refl
first_drop zero (set ∷ sets) = refl
first_drop (suc place) [] = refl
first_drop (suc place) (set ∷ sets) = first_drop place sets

-- the paragraph that is set at a place is the one there
pub set_at-place : (doc : Document) (round place : ℕ) → set_at doc round place ≡ option_map set_of (slice_get (paragraphs doc) place)
set_at-place doc round place = first_drop place (set_in doc round) ∙ slice_get-map set_of (paragraphs doc) place

-- the number of the paragraph at a place
pub number_in : (first place : ℕ) (numbers : List ℕ) (count number : ℕ) → numbers ≡ upwards first count → slice_get numbers place ≡ Some number → number ≡ first + place
number_in first place numbers zero number e at = absurd (none (sym (ap (λ (ns : List ℕ). slice_get ns place) e) ∙ at)) where
  none : None ≡ Some number → ⊥
  none e = cc
number_in first zero numbers (suc count) number e at = let same : first ≡ number = cc (sym (ap (λ (ns : List ℕ). slice_get ns 0) e) ∙ at) in omega arith
number_in first (suc place) numbers (suc count) number e at =
    number_in (first + 1) place (upwards (first + 1) count) count number refl (sym (ap (λ (ns : List ℕ). slice_get ns (suc place)) e) ∙ at) ∙ omega arith

pub number_at : (doc : Document) → IsPlain doc → (place : ℕ) (par : Par) → slice_get (paragraphs doc) place ≡ Some par → number_of par ≡ place + 1
number_at doc plain place par at =
    number_in 1 place (map number_of (paragraphs doc)) (paragraph_count doc) (number_of par) (numbers_of doc plain)
    (slice_get-map number_of (paragraphs doc) place ∙ ap (option_map number_of) at) ∙ omega arith

-- a block that is a paragraph
same_par : (par other : Par) → block.Par par ≡ par_block other → par ≡ other
same_par par other e =
    let layers = sym (out-roll-Block (Block-F.Par par)) ∙ ap out-Block (rolls-Par par ∙ e) ∙ out-roll-Block (Block-F.Par other) in
    cc

no_section : (section : Section) (par : Par) → block.Section section ≡ par_block par → ⊥
no_section section par e =
    let layers = sym (out-roll-Block (Block-F.Section section)) ∙ ap out-Block (rolls-Section section ∙ e) ∙ out-roll-Block (Block-F.Par par) in
    cc

-- the block that is read at a place is that of the paragraph there
read_block : (doc : Document) (plain : IsPlain doc) (place : ℕ) (blocks : List Block) (read : Block) → place < paragraph_count doc → blocks ≡ doc.body → read ≡ get_or blocks place read
    → (par : Par) × (slice_get (paragraphs doc) place ≡ Some par) × (read ≡ par_block par)
read_block doc plain place blocks read within same is =
    let here = there (paragraphs doc) place within in
    let found : slice_get blocks place ≡ Some read =
    slice_get_read blocks (paragraph_count doc) place read (sym (ap (length {A = Block}) same ∙ body_count doc plain)) within is in
    let block_here : slice_get blocks place ≡ Some (par_block here.0) =
    ap (λ (bs : List Block). slice_get bs place) same ∙ block_at doc plain place ∙ ap (option_map par_block) here.1 in
    (here.0, here.1, same_Some read (par_block here.0) (sym found ∙ block_here))

pub read_par : (doc : Document) (plain : IsPlain doc) (place : ℕ) (par : Par) (blocks : List Block) (read : Block) → place < paragraph_count doc → blocks ≡ doc.body → read ≡ get_or blocks place read
    → read ≡ block.Par par → slice_get (paragraphs doc) place ≡ Some par
read_par doc plain place par blocks read within same is matched =
    let r = read_block doc plain place blocks read within same is in
    r.1 ∙ ap (λ (p : Par). Some p) (sym (same_par par r.0 (sym matched ∙ r.2)))

pub read_section : (doc : Document) (plain : IsPlain doc) (place : ℕ) (section : Section) (blocks : List Block) (read : Block) → place < paragraph_count doc → blocks ≡ doc.body → read ≡ get_or blocks place read
    → read ≡ block.Section section → ⊥
read_section doc plain place section blocks read within same is matched =
    let r = read_block doc plain place blocks read within same is in
    no_section section r.0 (sym matched ∙ r.2)
