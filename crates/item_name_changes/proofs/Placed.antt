-- The names of a document with an item more in a paragraph.
use Rattle.std.proofs.Common.{◌≡◌, ℕ, true, false, List, [], ◌∷◌, ◌++◌, take, drop, refl, ap, ap₂, sym, ◌∙◌, subst, append_assoc, append-nil}
use Rattle.std.specs.List.{flat_map, list_any}
use Rattle.std.specs.Prelude.{◌==◌}
use Rattle.std.proofs.lemmas.Bool.Decides.{Decides-eqb}
use Rattle.std.proofs.lemmas.List.{take-append-drop}
use Rattle.std.proofs.lemmas.List.Concat.{flat_map-append}
use Rattle.doc_model.specs.declared.document.Document.{Document}
use Rattle.doc_model.specs.declared.paragraph.Par.{Par, out-Par, roll-Par}
use Rattle.doc_model.specs.declared.paragraph.ParId.{ParId}
use Rattle.doc_model.specs.declared.paragraph.Item.{Item, roll-Item}
use Rattle.doc_model.specs.declared.paragraph.What.{What, roll-What}
use Rattle.doc_model.specs.declared.paragraph.What.TheOpen.{What-F, Par-F}
use Rattle.doc_model.specs.declared.paragraph.What.TheViews.{out-roll-Par}
use Rattle.doc_model.specs.declared.paragraph.Note.{Note}
use Rattle.doc_model.specs.Reading.{note_of, notes_of}
use Rattle.edit_rules.specs.Edited.{Edited}
use Rattle.edit_rules.specs.Texts.{spans_before, with_item, with_items}
use Rattle.name_index.specs.declared.names.NameKind.{NameKind}
use Rattle.name_index.specs.Scan.{names_of_kind, section_names}
use Rattle.node_array.specs.declared.row.Row.{Row}
use Rattle.node_array.specs.Places.{is_par}
use Rattle.node_array.specs.Rows.{par_rows, rows_of}
use Rattle.paragraph_rows.specs.Located.{Located}
use Rattle.paragraph_rows.specs.OwnRow.{text_rows, rows_of_notes}
use Rattle.paragraph_rows.specs.Standing.{Stands}
use Rattle.paragraph_rows.proofs.Located.{located, none_front, none_both, none_back}
use Rattle.paragraph_rows.proofs.Opened.{par_open}
use Rattle.row_edits.specs.Sound.{AreSound, IsSound}
use Rattle.names_change.proofs.Places.{read_places, text_places}
use Rattle.names_change.proofs.Lead.{Pairs}
use Rattle.names_change.proofs.Reading.{read, IsOfItems, names_read}
use Rattle.names_change.proofs.SectionStarts.{starts_as, starts, sections_read}
use Rattle.names_change.proofs.Found.{start, Standing, standing, names_behind, read_at}
use Rattle.names_change.proofs.Split.{text_rolled}

-- an item at a place among the items of a paragraph
abbrev pub put_item : ℕ → What-F What Item Note Par → Par → Par
put_item at what par = roll-Par (record (out-Par par) { items = with_item at what (out-Par par).items })

abbrev pub new_item : ℕ → What-F What Item Note Par → Par → Item
new_item at what par = roll-Item (record { spans = spans_before at (out-Par par).items; what = roll-What what })

-- names with others among them
pub record Among (old new more : Pairs) : Type 0 where
  pub front : Pairs
  pub behind : Pairs
  pub was : old ≡ front ++ behind
  pub is : new ≡ front ++ (more ++ behind)

-- the names of the items of a paragraph with one more
text_among : (kind : NameKind) (at : ℕ) (what : What-F What Item Note Par) (par : Par) (ahead last : Pairs)
    → Among (ahead ++ (text_places kind par ++ last)) (ahead ++ (text_places kind (put_item at what par) ++ last)) (read_places kind (out-Par par).id (new_item at what par))
text_among kind at what par ahead last =
    let id : ParId = (out-Par par).id in
    let items : List Item = (out-Par par).items in
    let item : Item = new_item at what par in
    let before : Pairs = flat_map (read_places kind id) (take at items) in
    let behind : Pairs = flat_map (read_places kind id) (drop at items) in
    let more : Pairs = read_places kind id item in
    let old_is : text_places kind par ≡ before ++ behind =
    ap (flat_map (read_places kind id)) (sym (take-append-drop at items)) ∙ flat_map-append (read_places kind id) (take at items) (drop at items)
    in
    let new_is : text_places kind (put_item at what par) ≡ (before ++ (more ++ [])) ++ behind =
    text_rolled kind (record (out-Par par) { items = with_item at what items })
    ∙ flat_map-append (read_places kind id) (take at items ++ item ∷ []) (drop at items)
    ∙ ap (λ (some : Pairs). some ++ behind) (flat_map-append (read_places kind id) (take at items) (item ∷ []))
    in
    record {
      front = ahead ++ before;
      behind = behind ++ last;
      was =
          ap (λ (some : Pairs). ahead ++ (some ++ last)) old_is ∙ ap (λ (some : Pairs). ahead ++ some) (append_assoc before behind last)
          ∙ sym (append_assoc ahead before (behind ++ last));
      is =
          ap (λ (some : Pairs). ahead ++ (some ++ last)) new_is ∙ ap (λ (some : Pairs). ahead ++ (((before ++ some) ++ behind) ++ last)) (append-nil more)
          ∙ ap (λ (some : Pairs). ahead ++ some) (append_assoc (before ++ more) behind last ∙ append_assoc before more (behind ++ last))
          ∙ sym (append_assoc ahead before (more ++ (behind ++ last)));
    }

-- what an item more comes to
pub record Placing (doc new : Document) (at : ℕ) (what : What-F What Item Note Par) (number : ParId) : Type 0 where
  pub par : Par
  pub number_is : (out-Par par).id ≡ number
  pub names : (kind : NameKind) → IsOfItems kind → Among (names_of_kind doc kind) (names_of_kind new kind) (read_places kind (out-Par par).id (new_item at what par))
  pub sections : section_names new ≡ section_names doc

-- the notes of the changed paragraph
notes_put : (at : ℕ) (what : What-F What Item Note Par) (par : Par) → notes_of (put_item at what par)
    ≡ flat_map note_of (take at (out-Par par).items) ++ (note_of (new_item at what par) ++ flat_map note_of (drop at (out-Par par).items))
notes_put at what par =
    let items : List Item = (out-Par par).items in
    let item : Item = new_item at what par in
    ap (λ (p : Par-F What Item Note Par). flat_map note_of p.items) (out-roll-Par (record (out-Par par) { items = with_item at what items }))
    ∙ flat_map-append note_of (take at items ++ item ∷ []) (drop at items)
    ∙ ap (λ (some : List Note). some ++ flat_map note_of (drop at items)) (flat_map-append note_of (take at items) (item ∷ []))
    ∙ append_assoc (flat_map note_of (take at items)) (note_of item ++ []) (flat_map note_of (drop at items))
    ∙ ap (λ (some : List Note). flat_map note_of (take at items) ++ (some ++ flat_map note_of (drop at items))) (append-nil (note_of item))

-- the paragraph is none of the notes'
fresh : (number : ParId) (at : ℕ) (what : What-F What Item Note Par) (par : Par) → list_any (is_par number) (rows_of_notes par) ≡ false → list_any (is_par number) (flat_map text_rows (note_of (new_item at what par))) ≡ false
    → list_any (is_par number) (rows_of_notes (put_item at what par)) ≡ false
fresh number at what par none more =
    let items : List Item = (out-Par par).items in
    let front : List Note = flat_map note_of (take at items) in
    let own : List Note = note_of (new_item at what par) in
    let back : List Note = flat_map note_of (drop at items) in
    let parts : list_any (is_par number) (flat_map text_rows front ++ flat_map text_rows back) ≡ false =
    ap (list_any (is_par number)) (sym (ap (flat_map text_rows) (ap (flat_map note_of) (sym (take-append-drop at items)) ∙ flat_map-append note_of (take at items) (drop at items)) ∙ flat_map-append text_rows front back)) ∙ none
    in
    ap (λ (notes : List Note). list_any (is_par number) (flat_map text_rows notes)) (notes_put at what par)
    ∙ ap (list_any (is_par number)) (flat_map-append text_rows front (own ++ back) ∙ ap (λ (rows : List Row). flat_map text_rows front ++ rows) (flat_map-append text_rows own back))
    ∙ none_both (is_par number) (flat_map text_rows front) (flat_map text_rows own ++ flat_map text_rows back) (none_front (is_par number) (flat_map text_rows front) (flat_map text_rows back) parts)
    (none_both (is_par number) (flat_map text_rows own) (flat_map text_rows back) more (none_back (is_par number) (flat_map text_rows front) (flat_map text_rows back) parts))

own_number : (number : ParId) (before : List Row) (one : Row) (behind : List Row) (doc : Document) (it : Located number doc before one behind) (stands : Stands number (rows_of doc.body) before one behind)
    → (out-Par it.old).id ≡ number
own_number number before one behind doc it stands =
    let same : (number.0 == (out-Par it.old).id.0) ≡ true = ap (is_par number) it.own ∙ stands.own in
    ap (λ (n : ℕ). record { 0 = n }) (sym ((Decides-eqb number.0 (out-Par it.old).id.0).0 same))

pub placing : (old later : Edited) (at : ℕ) (what : What-F What Item Note Par) (number : ParId) (before : List Row) (one : Row) (behind : List Row) → later.document ≡ with_items number.0 (with_item at what) old.document
    → Stands number (rows_of old.document.body) before one behind → IsSound old → IsSound later
    → ((par : Par) → list_any (is_par number) (flat_map text_rows (note_of (new_item at what par))) ≡ false)
    → Placing old.document later.document at what number
placing old later at what number before one behind same stands sound sound_later other =
    let doc : Document = old.document in
    let new : Document = later.document in
    let it : Located number doc before one behind = located number doc before one behind stands sound.flat in
    let par : Par = it.old in
    let changed : Par = put_item at what par in
    let none : list_any (is_par number) (rows_of_notes par) ≡ false = none_front (is_par number) (rows_of_notes par) it.after (ap (list_any (is_par number)) (sym it.notes) ∙ stands.none_behind) in
    let was : rows_of doc.body ≡ before ++ (par_rows par ++ it.after) =
    stands.rows_are ∙ ap₂ (λ (r : Row) (rows : List Row). before ++ r ∷ rows) (sym it.own) it.notes
    ∙ ap (λ (rows : List Row). before ++ (rows ++ it.after)) (sym (par_open par))
    in
    let now : rows_of new.body ≡ before ++ (par_rows changed ++ it.after) =
    ap (λ (d : Document). rows_of d.body) same ∙ it.changed (put_item at what) (fresh number at what par none (other par))
    in
    let here : Standing before par it.after = standing old.next before par it.after (subst (AreSound old.next) was sound) in
    let there : Standing before changed it.after = standing later.next before changed it.after (subst (AreSound later.next) now sound_later) in
    let same_id : (out-Par changed).id ≡ (out-Par par).id = ap (λ (p : Par-F What Item Note Par). p.id) (out-roll-Par (record (out-Par par) { items = with_item at what (out-Par par).items })) in
    record {
      par = par;
      number_is = own_number number before one behind doc it stands;
      names = λ kind of_items.
          let among = text_among kind at what par (read kind before start) (names_behind kind before it.after) in
          record {
            front = among.front;
            behind = among.behind;
            was = names_read kind of_items doc sound.flat ∙ ap (λ (rows : List Row). read kind rows start) was ∙ read_at kind before par it.after here.fit ∙ among.was;
            is = names_read kind of_items new sound_later.flat ∙ ap (λ (rows : List Row). read kind rows start) now ∙ read_at kind before changed it.after there.fit ∙ among.is;
          };
      sections =
          sections_read new ∙ ap starts now ∙ starts_as before changed par it.after it.after same_id refl ∙ sym (ap starts was) ∙ sym (sections_read doc);
    }
