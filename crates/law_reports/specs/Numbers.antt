-- What the definition of a run leaves open of its report: that these numbers have 64 bits, as the code's have.
use Rattle.std.specs.List.{AllByRecursion}
use Rattle.cmd_report.specs.Reports.{DeviceView, ReportView}
use Rattle.cmd_report_reader.specs.Readable.{IsConn, IsNumber, IsUnderway}

pub record HasNumbers (report : ReportView) : Type 0 where
  pub epochs : AllByRecursion (λ (d : DeviceView). IsNumber d.epoch) report.devices
  pub underway : AllByRecursion (λ (d : DeviceView). AllByRecursion IsUnderway d.underway) report.devices
  -- with the names of their devices, of which a run says nothing either
  pub conns : AllByRecursion IsConn report.conns
