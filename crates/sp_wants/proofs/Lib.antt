mod Stretched
