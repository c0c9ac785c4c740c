use Rattle.std.proofs.Common.{sym}
use Rattle.std.proofs.lemmas.List.{set_past}
use Rattle.packed.proofs.bits.set_octet.Goals as goal

pub returns-else-i-octets : goal.returns-else-i-octets
returns-else-i-octets c = sym (set_past c.args.octets.now c.args.i c.args.value c.if-i-octets.false)
