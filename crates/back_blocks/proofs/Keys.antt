-- What the names of sections and declarations mean.
use Rattle.std.proofs.Common.{◌≡◌, refl, codes}
use Rattle.load_model.specs.declared.names.Key.TheVariants as key
use Rattle.load_model.specs.declared.names.Tag.TheVariants as tag
use Rattle.load_model.specs.Names.{known_tags, known_keys}
use Rattle.back_names.specs.Named.{tag_named, key_named}

pub section_tag : tag_named (codes "text:section") ≡ tag.Section
unfolding tag_named known_tags
section_tag = refl

pub source_tag : tag_named (codes "text:section-source") ≡ tag.SectionSource
unfolding tag_named known_tags
source_tag = refl

pub variables_tag : tag_named (codes "text:variable-decls") ≡ tag.VariableDeclarations
unfolding tag_named known_tags
variables_tag = refl

pub variable_tag : tag_named (codes "text:variable-decl") ≡ tag.VariableDeclaration
unfolding tag_named known_tags
variable_tag = refl

pub sequences_tag : tag_named (codes "text:sequence-decls") ≡ tag.SequenceDeclarations
unfolding tag_named known_tags
sequences_tag = refl

pub sequence_tag : tag_named (codes "text:sequence-decl") ≡ tag.SequenceDeclaration
unfolding tag_named known_tags
sequence_tag = refl

pub protected_key : key_named (codes "text:protected") ≡ key.Protected
unfolding key_named known_keys
protected_key = refl

pub href_key : key_named (codes "xlink:href") ≡ key.Href
unfolding key_named known_keys
href_key = refl

pub section_name_key : key_named (codes "text:section-name") ≡ key.SectionName
unfolding key_named known_keys
section_name_key = refl

pub value_type_key : key_named (codes "office:value-type") ≡ key.Uncounted
unfolding key_named known_keys
value_type_key = refl

pub outline_shown_key : key_named (codes "text:display-outline-level") ≡ key.Uncounted
unfolding key_named known_keys
outline_shown_key = refl
