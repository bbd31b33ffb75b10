pub mod ReportLemmas
pub mod PendingLemmas
pub mod StrandsLemmas
pub mod CallLemmas
