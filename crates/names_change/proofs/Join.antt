-- The names of a document of which two paragraphs are joined.
use Rattle.std.proofs.Common.{◌≡◌, ℕ, ◌&&◌, Bool, false, List, [], ◌∷◌, ◌++◌, map, drop, Option, Some, None, refl, ap, ap₂, sym, ◌∙◌, subst, append_assoc, append-nil}
use Rattle.std.specs.Prelude.{if◌then◌else◌}
use Rattle.std.specs.List.{flat_map, AllByRecursion as Each}
use Rattle.std.proofs.lemmas.List.Concat.{flat_map-append}
use Rattle.doc_model.specs.declared.block.Block.{Block}
use Rattle.doc_model.specs.declared.document.Document.{Document}
use Rattle.doc_model.specs.declared.edit.EditOp.TheVariants.{Join}
use Rattle.doc_model.specs.declared.paragraph.Par.{Par, out-Par}
use Rattle.doc_model.specs.declared.paragraph.ParHead.{ParHead}
use Rattle.doc_model.specs.declared.paragraph.ParId.{ParId}
use Rattle.doc_model.specs.declared.paragraph.Item.{Item}
use Rattle.doc_model.specs.declared.paragraph.What.{What}
use Rattle.doc_model.specs.declared.paragraph.What.TheOpen.{Par-F}
use Rattle.doc_model.specs.declared.paragraph.What.TheViews.{out-roll-Par}
use Rattle.doc_model.specs.declared.paragraph.Note.{Note}
use Rattle.edit_rules.specs.Blocks.{with_items_of, join_first}
use Rattle.edit_rules.specs.Edited.{Edited, edited, edited_document}
use Rattle.edit_rules.specs.Places.{as_block}
use Rattle.name_index.specs.declared.names.NameKind.{NameKind}
use Rattle.name_index.specs.Scan.{names_of_kind, section_names, names_of}
use Rattle.name_index.proofs.Found.{or_else}
use Rattle.node_array.specs.declared.row.Row.{Row}
use Rattle.node_array.specs.declared.row.Row.TheVariants as row
use Rattle.node_array.specs.Rows.{par_rows, rows_of}
use Rattle.container_rows.specs.Standing.{IsApart, KeepsParagraphs, IsChangedFrom}
use Rattle.container_rows.specs.Texts.{note_count, through_ends}
use Rattle.container_rows.proofs.Changed.{changed_from}
use Rattle.container_rows.proofs.Heads.{Opened, opened, kept_by}
use Rattle.container_rows.proofs.Join.{Next, next_block, notes_dropped}
use Rattle.container_rows.proofs.Tests.{par_alone}
use Rattle.held_rows.proofs.Runs.{first_block}
use Rattle.paragraph_rows.proofs.Lists.{each_front}
use Rattle.row_edits.specs.Sound.{AreSound, IsSound}
use Rattle.rows_stay_sound.proofs.Halves.{join_kept}
use Rattle.rows_stay_sound.proofs.Neutral.{numbers, numbers_both}
use Rattle.names_change.proofs.Places.{read_places, text_places}
use Rattle.names_change.specs.Leading.{have_name, leads_to, Redirects}
use Rattle.names_change.proofs.Lead.{Pairs, Other, lead, lead_both, others_lead, redirect, as_well}
use Rattle.names_change.proofs.Reading.{Fits, fits, read, names_read}
use Rattle.names_change.proofs.Others.{Differs}
use Rattle.names_change.proofs.Renamed.{renamed, told}
use Rattle.names_change.proofs.SectionStarts.{starts, par_starts, starts_as, sections_read}
use Rattle.names_change.proofs.Found.{have_bare, no_section, redirects_by, start, is_within, Standing, standing, names_behind, read_at, ahead_other, behind_other}
use Rattle.names_change.proofs.Split.{text_rolled, two_read}

-- two paragraphs that become one
both_lead : (kind : NameKind) (name : List ℕ) (before : List Row) (par other whole : Par) (behind : List Row)
    → Fits (is_within before) par → Fits (is_within before) other → Fits (is_within before) whole → Standing (before ++ par_rows par) other behind
    → text_places kind whole ≡ flat_map (read_places kind (out-Par par).id) ((out-Par par).items ++ (out-Par other).items)
    → lead name (read kind (before ++ (par_rows whole ++ behind)) start)
    ≡ (if have_name kind name (out-Par other).items && leads_to (out-Par other).id (lead name (read kind (before ++ (par_rows par ++ (par_rows other ++ behind))) start))
    then Some (out-Par par).id else lead name (read kind (before ++ (par_rows par ++ (par_rows other ++ behind))) start))
both_lead kind name before par other whole behind par_fits other_fits whole_fits it whole_is =
    let from : ParId = (out-Par other).id in
    let to : ParId = (out-Par par).id in
    let items : List Item = (out-Par other).items in
    let ahead : Pairs = read kind before start in
    let own : Pairs = text_places kind par in
    let rear : Pairs = text_places kind other in
    let new : Pairs = flat_map (read_places kind to) items in
    let last : Pairs = names_behind kind before behind in
    let have : Bool = have_name kind name items in
    let old_is : lead name (read kind (before ++ (par_rows par ++ (par_rows other ++ behind))) start) ≡ or_else (lead name (ahead ++ own)) (or_else (lead name rear) (lead name last)) =
    ap (lead name) (two_read kind before par other behind par_fits other_fits ∙ sym (append_assoc ahead own (rear ++ last)))
    ∙ lead_both name (ahead ++ own) (rear ++ last) ∙ ap (or_else (lead name (ahead ++ own))) (lead_both name rear last)
    in
    let new_is : lead name (read kind (before ++ (par_rows whole ++ behind)) start) ≡ or_else (lead name (ahead ++ own)) (or_else (lead name new) (lead name last)) =
    ap (lead name)
    (read_at kind before whole behind whole_fits
    ∙ ap (λ (some : Pairs). ahead ++ (some ++ last)) (whole_is ∙ flat_map-append (read_places kind to) (out-Par par).items items)
    ∙ ap (λ (some : Pairs). ahead ++ some) (append_assoc own new last)
    ∙ sym (append_assoc ahead own (new ++ last)))
    ∙ lead_both name (ahead ++ own) (new ++ last) ∙ ap (or_else (lead name (ahead ++ own))) (lead_both name new last)
    in
    let read_ahead : read kind (before ++ par_rows par) start ≡ ahead ++ own =
    ap (λ (rows : List Row). read kind (before ++ rows) start) (sym (append-nil (par_rows par))) ∙ read_at kind before par [] par_fits ∙ ap (λ (some : Pairs). ahead ++ some) (append-nil own)
    in
    let others_ahead : Each (Other from.0) (ahead ++ own) = subst (Each (Other from.0)) read_ahead (ahead_other kind from.0 (before ++ par_rows par) it.ahead) in
    let before_it : Each (Differs from.0) (numbers before) = each_front (Differs from.0) (numbers before) (numbers (par_rows par)) (subst (Each (Differs from.0)) (numbers_both before (par_rows par)) it.ahead) in
    new_is
    ∙ redirect from to (lead name (ahead ++ own)) None (lead name rear) (lead name new) (lead name last) false have
    (others_lead from name (ahead ++ own) others_ahead) (λ is. is) (λ _. refl) (told kind from name items (it.notes kind)).there (renamed kind from name to items (it.notes kind))
    (others_lead from name last (behind_other kind from.0 before behind before_it it.after_it))
    ∙ ap
    (λ (b : Bool). if b && leads_to from (or_else (lead name (ahead ++ own)) (or_else (lead name rear) (lead name last))) then Some to else or_else (lead name (ahead ++ own)) (or_else (lead name rear) (lead name last)))
    (as_well have)
    ∙ sym (ap (λ said. if have && leads_to from said then Some to else said) old_is)

joined_is : (par other : Par) (blocks : List Block) → join_first (as_block par ∷ as_block other ∷ blocks) ≡ as_block (with_items_of other par) ∷ blocks
joined_is par other blocks =
    ap₂ (λ (pars others : List Par). flat_map (λ p. map (λ o. as_block (with_items_of o p)) others) pars ++ blocks) (par_alone par) (par_alone other)

join_keeps : KeepsParagraphs join_first
join_keeps [] = refl
join_keeps (par ∷ []) = kept_by (as_block par ∷ []) (par ∷ []) refl
join_keeps (par ∷ other ∷ pars) = kept_by (join_first (map as_block (par ∷ other ∷ pars))) (with_items_of other par ∷ pars) (joined_is par other (map as_block pars))

whole_id : (par other : Par) → (out-Par (with_items_of other par)).id ≡ (out-Par par).id
whole_id par other = ap (λ (p : Par-F What Item Note Par). p.id) (out-roll-Par (record (out-Par par) { items = (out-Par par).items ++ (out-Par other).items }))

pub join_follows : (old : Edited) (before : List Row) (head : ParHead) (items : List Item) (rest : List Row) (other : ParHead) (others : List Item) (more : List Row)
    → IsApart old.document → rows_of old.document.body ≡ before ++ row.Par head items ∷ rest → drop (through_ends (note_count items) rest) rest ≡ row.Par other others ∷ more → IsSound old
    → Redirects (λ kind name. have_name kind name others) other.id head.id (names_of old.document) (names_of (edited_document old.next (Join head.id) old.document))
join_follows old before head items rest other others more apart is behind_is sound =
    let doc : Document = old.document in
    let next : ℕ = old.next in
    let new : Document = edited_document next (Join head.id) doc in
    let it : IsChangedFrom join_first before (row.Par head items ∷ rest) (rows_of new.body) = changed_from join_first doc before head items rest apart (λ _. join_keeps) is in
    let par : Par = it.par in
    let own : Opened head items rest par (rows_of it.blocks ++ it.behind) = opened head items rest par (rows_of it.blocks ++ it.behind) it.old in
    let second : Next other others more it.blocks it.behind =
    next_block other others more it.blocks it.behind it.ends (sym (notes_dropped head items rest par (rows_of it.blocks ++ it.behind) own it.notes) ∙ behind_is)
    in
    let whole : Par = with_items_of second.par par in
    let behind : List Row = rows_of second.rest ++ it.behind in
    let parted : rows_of it.blocks ++ it.behind ≡ par_rows second.par ++ behind = ap (λ (bs : List Block). rows_of bs ++ it.behind) second.blocks_are ∙ first_block second.par second.rest it.behind in
    let was : rows_of doc.body ≡ before ++ (par_rows par ++ (par_rows second.par ++ behind)) =
    is ∙ ap (λ (rows : List Row). before ++ rows) (it.old ∙ ap (λ (rows : List Row). par_rows par ++ rows) parted)
    in
    let now : rows_of new.body ≡ before ++ (par_rows whole ++ behind) =
    it.new ∙ ap (λ (bs : List Block). before ++ (rows_of (join_first (as_block par ∷ bs)) ++ it.behind)) second.blocks_are
    ∙ ap (λ (bs : List Block). before ++ (rows_of bs ++ it.behind)) (joined_is par second.par second.rest) ∙ ap (λ (rows : List Row). before ++ rows) (first_block whole second.rest it.behind)
    in
    let sound_new : IsSound (edited old (Join head.id)) = join_kept old before head items rest other others more apart is behind_is sound in
    let sound_was : AreSound next (before ++ (par_rows par ++ (par_rows second.par ++ behind))) = subst (AreSound next) was sound in
    let here : Standing before par (par_rows second.par ++ behind) = standing next before par (par_rows second.par ++ behind) sound_was in
    let second_fits = (fits (is_within before) second.par behind here.flat).0 in
    let there : Standing (before ++ par_rows par) second.par behind =
    standing next (before ++ par_rows par) second.par behind (subst (AreSound next) (sym (append_assoc before (par_rows par) (par_rows second.par ++ behind))) sound_was)
    in
    let joined : Standing before whole behind = standing (edited old (Join head.id)).next before whole behind (subst (AreSound (edited old (Join head.id)).next) now sound_new) in
    let to_is : head.id ≡ (out-Par par).id = ap (λ (h : ParHead). h.id) own.head_is in
    let from_is : other.id ≡ (out-Par second.par).id = ap (λ (h : ParHead). h.id) second.own.head_is in
    let sections : section_names new ≡ section_names doc =
    sections_read new ∙ ap starts now
    ∙ starts_as before whole par behind (par_rows second.par ++ behind) (whole_id par second.par) (sym (par_starts second.par behind)) ∙ sym (ap starts was) ∙ sym (sections_read doc)
    in
    redirects_by doc new (λ kind name. have_name kind name others) other.id head.id (λ name. no_section name others) sections
    (λ kind of_items name.
    let have_is : have_name kind name others ≡ have_name kind name (out-Par second.par).items = ap (have_name kind name) second.own.items_are ∙ have_bare kind name (out-Par second.par).items in
    let said : lead name (names_of_kind doc kind) ≡ lead name (read kind (before ++ (par_rows par ++ (par_rows second.par ++ behind))) start) =
    ap (lead name) (names_read kind of_items doc sound.flat ∙ ap (λ (rows : List Row). read kind rows start) was)
    in
    ap (lead name) (names_read kind of_items new sound_new.flat ∙ ap (λ (rows : List Row). read kind rows start) now)
    ∙ both_lead kind name before par second.par whole behind here.fit second_fits joined.fit there
    (text_rolled kind (record (out-Par par) { items = (out-Par par).items ++ (out-Par second.par).items }))
    ∙ sym
    (ap₂ (λ (h : Bool) (to : ParId). if h && leads_to other.id (lead name (names_of_kind doc kind)) then Some to else lead name (names_of_kind doc kind)) have_is to_is
    ∙ ap₂ (λ (from : ParId) (led : Option ParId). if have_name kind name (out-Par second.par).items && leads_to from led then Some (out-Par par).id else led) from_is said))
