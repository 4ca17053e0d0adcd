-- The table that the access lists show to the crates above.
use Rattle.acl.specs.Table.{Table}
use Rattle.acl.specs.declared.lists.Lists.{Lists}

abbrev pub table_of : Lists → Table
table_of l = record {
  edition = l.edition;
  owner = l.owner;
  rows = l.rows.entries;
  masks = l.masks.entries;
  windows = l.windows.serials;
  window_preset = l.window_preset;
  command_preset = l.command_preset;
}
