use Rattle.server_client.proofs.attach.run.Goals as goal

pub start-requires-after_bounds : goal.start-requires-after_bounds
start-requires-after_bounds g c κs within = record {
  a = c.args.arguments.now;
  asked = c.requires;
  rows = c.args.arguments.now.rows;
  columns = c.args.arguments.now.columns;
  leads = c.in_ok-door.ensures.0;
}
