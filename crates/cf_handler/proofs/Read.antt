-- The shipped texts read as the shipped schemas, by computing.
use Rattle.std.proofs.Common.{◌≡◌, Ok, refl}
use Rattle.std.specs.Str.{is_utf8, chars}
use lib.Utf8.{encode}
use Rattle.json.specs.Lex.{lex, punctuate}
use Rattle.json.specs.Json.{value, items, members}
use Rattle.json.specs.Word.{word}
use Rattle.json.specs.Text.{content}
use Rattle.cf_schema.specs.Reading.{schema_in}
use Rattle.cf_handler.specs.Shipped.{file_schema, record_schema}
use Rattle.cf_handler.specs.declared.shipped.TheConstants.{FILE_SCHEMA, RECORD_SCHEMA}

pub file_reads : schema_in FILE_SCHEMA.now ≡ Ok file_schema
unfolding lex punctuate value items members word content is_utf8 chars encode
file_reads = refl

pub record_reads : schema_in RECORD_SCHEMA.now ≡ Ok record_schema
unfolding lex punctuate value items members word content is_utf8 chars encode
record_reads = refl
