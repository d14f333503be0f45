-- What a contract sees of all that is broken of a file.
use Rattle.pst_damage.specs.declared.damage.Damage.{Damage}
use Rattle.pst_damage.specs.Damage.{DamageParts}

abbrev pub damage_parts : Damage → DamageParts
damage_parts d = record {
  header = d.header;
  pages = d.pages.items;
  blocks = d.blocks.items;
  maps = d.maps;
  nodes = d.nodes.items;
  whole = d.whole;
}
