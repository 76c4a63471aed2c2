-- The bytes of a document, loaded.
use Rattle.std.proofs.Common.{◌≡◌, ℕ, List, ap, ◌∙◌}
use Rattle.std.specs.Str.{IsUtf8, chars}
use Rattle.markup_nodes.specs.declared.tree.Tree.{Tree}
use Rattle.doc_model.specs.declared.document.Document.{Document}
use Rattle.doc_model.specs.Valid.{IsValid}
use Rattle.load_model.specs.declared.element.Element.{Element as Read}
use Rattle.load_model.specs.Names.{resolved}
use Rattle.load_model.specs.Offences.{least}
use Rattle.load_model.specs.Styles.{Names, names_of}
use Rattle.tree_text.specs.Writing.{document_text, unplaced}
use Rattle.tree_text.proofs.TreeWritten.{read_back}
use Rattle.written_model.specs.Written.{written}
use Rattle.back_names.specs.Named.{named, placeless}
use Rattle.back_names.proofs.Root.{root_names, root_resolved}
use Rattle.back_offences.proofs.Everything.{none_offends}
use Rattle.back_places.proofs.Placeless.{placeless_named}
use Rattle.back_unplaced.proofs.Root.{written_still}
use Rattle.back_valid.specs.Found.{AreNamesOf}
use Rattle.back_writable.proofs.Root.{written_fits}
use Rattle.read_back.specs.Back.{HasRanges, IsLoadedBack}
use Rattle.read_back.proofs.Draft.{draft_alike, loaded_alike}
use Rattle.read_back.proofs.Report.{report_is}
use Rattle.read_back.proofs.Text.{all_met, sequences_are, variables_are}
use Rattle.read_back.proofs.Tree.{layouts_are, lists_are, masters_are, names_are, parts_back, styles_are}

pub loaded_back : (bytes : List ℕ) (doc : Document) → IsValid doc → HasRanges doc → IsUtf8 bytes → chars bytes ≡ document_text (written doc) → IsLoadedBack bytes doc
loaded_back bytes doc valid ranges utf8 text =
    let fits = written_fits doc valid in
    let spelled = read_back bytes (written doc) utf8 text fits.0 fits.1 in
    let tree : Tree = spelled.0 in
    let alike : unplaced tree.root ≡ unplaced (written doc) = spelled.2 in
    let root : Read = resolved tree.root in
    let same : placeless root ≡ named (written doc) = ap placeless (root_resolved doc tree.root alike) ∙ placeless_named tree.root ∙ ap named (alike ∙ written_still doc) in
    let back = parts_back doc valid ranges in
    let of_names = names_are doc root valid back same in
    let are : AreNamesOf doc (names_of root) = record { styles = ap (λ (names : Names). names.styles) of_names; lists = ap (λ (names : Names). names.lists) of_names } in
    let none = none_offends doc tree.root valid (root_names doc tree.root alike) same (record {
      styles = styles_are doc root valid back same;
      lists = lists_are doc root valid back same;
      layouts = layouts_are doc root valid back same;
      masters = masters_are doc root valid back same;
      variables = variables_are doc root valid ranges same are;
      sequences = sequences_are doc root valid ranges same are;
      text = draft_alike doc root valid ranges back same are;
      met = all_met doc root valid ranges same are;
    }) in
    record {
      tree = tree;
      spelled = spelled.1;
      sound = ap least none;
      alike = loaded_alike doc root valid ranges back same are;
      report = report_is doc root valid ranges back same are;
    }
