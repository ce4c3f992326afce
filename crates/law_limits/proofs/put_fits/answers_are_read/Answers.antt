use Rattle.std.proofs.Common.{Some, None}
use Rattle.law_limits.proofs.Forwarding.{fin_bounded}
use Rattle.law_limits.proofs.Requests.{account_info_bounded, bounce_read, bound_bounded, iq_error_read, items_bounded, presence_bounce_read, result_read, roster_bounded, server_info_bounded}
use Rattle.law_limits.proofs.put_fits.answers_are_read.Goals as goal

pub returns : goal.returns
returns c =
    record { bounce = bounce_read; presence = presence_bounce_read; error = iq_error_read; result = result_read; roster = roster_bounded; server_info = server_info_bounded; account_info = account_info_bounded; items = items_bounded; bound = bound_bounded; fin = λ v. fin_bounded (Some v.first_index) v; fin_without_index = λ v a b d. fin_bounded None v a b tt d }
