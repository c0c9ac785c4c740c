use Rattle.std.proofs.Common.{sym}
use Rattle.sender.proofs.Outcomes.{format_passes}
use Rattle.sender.proofs.source.Source.new.Goals as goal

pub invariant_of-result : goal.invariant_of-result
invariant_of-result g c = record {
  tested = record { format_allowed = format_passes _ c.in_ok-check.ensures; field_allowed = c.requires };
  fits = sym c.if-not-fits.ensures;
  octets_are = c.group_octets.ensures;
  row_groups_are = c.row_groups.ensures.value;
  groups_are = c.groups.ensures.value;
}
