-- The words have so many bytes.
use Rattle.std.proofs.Common.{take, ap, sym}
use Rattle.std.specs.Option.{option_map}
use Rattle.gc_bytes.specs.Text.{bytes_of}
use Rattle.gc_bytes.proofs.Spelled.{length_within, told_length}
use Rattle.gc_bytes.proofs.text.Text.with_length.Goals as goal

pub invariant_of-result : goal.invariant_of-result
invariant_of-result c = (length_within c.args.words.now c.args.count (told_length c.args.words.now c.args.count c.requires.counted), c.requires.few)

pub returns : goal.returns
returns c = sym (ap (option_map (λ n. take n (bytes_of c.args.words.now))) (told_length c.args.words.now c.args.count c.requires.counted))
