-- The order of paths is total.
use Rattle.std.specs.Cmp.{IsTotalOrder, nat_cmp_total, bool_cmp_total, on_total, then_total}
use Rattle.std.specs.Cmp.Lexicographic.{lists_total, nat_list_cmp_total}
use Rattle.dv_update.specs.PathOrder.{is_name, number_of, component_order, path_order}

pub component_order_total : IsTotalOrder component_order
component_order_total = then_total (on_total is_name bool_cmp_total) (then_total (on_total number_of nat_cmp_total) nat_list_cmp_total)

pub path_order_total : IsTotalOrder path_order
path_order_total = lists_total component_order_total
