use Rattle.std.proofs.Common.{rules}
use Rattle.dv_views.proofs.Listed.{all_without}
use Rattle.dv_views.proofs.readers.Readers.take_out.Goals as goal

pub returns : goal.returns
returns c = all_without _ c.args.place _ (λ k v b w f' t. search rules) c.args.self.now.lists.entries c.retain.new.self.entries c.retain.ensures.filtered
