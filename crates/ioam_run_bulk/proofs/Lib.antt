mod GeneratedLaws
mod LoadLaws
mod RanLaws
mod ReportLaws
mod SendsLaws
