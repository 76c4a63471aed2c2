-- What is left of a paragraph's content.
use Rattle.content_write.specs.Rest.{Left}
use Rattle.content_write.specs.declared.content.Content.{Content}

abbrev pub left_of : Content → Left
left_of content = record { around = content.around.now; after_word = content.after_word; items = content.items }
